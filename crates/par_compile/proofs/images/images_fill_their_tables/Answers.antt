use Rattle.par_compile.proofs.Imaged.{fill_tables}
use Rattle.par_compile.proofs.images.images_fill_their_tables.Goals as goal

pub returns : goal.returns
returns c = fill_tables c.an_image_has_one_spelling.ensures.apart
