-- One table more.
use Rattle.std.proofs.Common.{arith}
use Rattle.run_report.proofs.Gathering.{put_more, put_all}
use Rattle.table_text.specs.Texts.{short_lines}
use Rattle.table_text.proofs.writing.put_shorts.Goals as goal

pub loop-table-preserved : goal.loop-table-preserved
loop-table-preserved c =
    put_more short_lines c.args.tables.now c.args.text.now.items c.loop-table.text.items c.loop-table.table-index c.loop-table.invariant c.table-item.result c.put_short.new.text.items (omega arith) c.table-item.is c.in_ok-put_short.ensures

pub returns : goal.returns
returns c = put_all short_lines c.args.tables.now c.args.text.now.items c.loop-table.text.items c.loop-table.table-index c.loop-table.invariant (omega arith)
