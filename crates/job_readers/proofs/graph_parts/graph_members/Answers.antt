use Rattle.job_readers.proofs.Common.{arith, path_text, view}
use Rattle.job_readers.proofs.KnownNames.{vertices_known}
use Rattle.job_readers.proofs.graph_parts.graph_members.Goals as goal

pub nets_among-requires-clause-known : goal.nets_among-requires-clause-known
nets_among-requires-clause-known c = grind (arith, vertices_known c.args.version (path_text c.args.path.now) (view c.args.graph.now) c.in_ok-vertices.ensures.read.0)
