use Rattle.mesh_core.proofs.{Changes.IsMesh-empty, OpenedLaw.IsMesh-opened}
use Rattle.mesh_core.proofs.laws.an_opened_mesh_is_a_mesh.Goals as goal

pub returns : goal.returns
returns c = λ setup nets packets size different sites tables room.
    IsMesh-opened setup nets packets (IsMesh-empty setup size different sites room tables)
