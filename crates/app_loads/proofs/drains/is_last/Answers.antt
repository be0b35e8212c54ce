use Rattle.app_loads.proofs.drains.is_last.Goals as goal

pub returns-in-Some : goal.returns-in-Some
returns-in-Some c found = (c.in-Some.block, c.in-Some.is, c.has_key.ensures found)
