use Rattle.run_report.proofs.Common.{arith, flat_map-map, got_line, named_delivery}
use Rattle.run_report.proofs.Gathering.{put_all}
use Rattle.run_report.proofs.texts.put_gots.Goals as goal

pub returns : goal.returns
returns c = grind (arith, flat_map-map got_line (named_delivery (c.as_slice-placed.result.now)) (c.as_slice-deliveries.result.now), put_all)
