-- One place more: all other rows are original, and so meet no alias.
use Rattle.cover_merge.proofs.Common.{All-nil, arith}
use Rattle.cover_merge.proofs.{Lists.AllPairs-nil, RivalLemmas.IsAmong, RivalLemmas.among_all, RivalLemmas.among_more}
use Rattle.cover_merge.proofs.rivals.rivals_among.Goals as goal

pub loop-k-init : goal.loop-k-init
loop-k-init c = grind (arith, IsAmong, AllPairs-nil, All-nil)

pub add_rival-requires : goal.add_rival-requires
add_rival-requires c = c.requires.inside c.loop-k.k 0 c.loop-k-test.true

pub loop-k-preserved : goal.loop-k-preserved
loop-k-preserved c =
    among_more c.args.row.rows.now c.args.row.serials.now c.args.row.sound c.args.joined.now c.requires c.args.row.s c.loop-k.k c.loop-k.list c.add_rival.new.list
    c.loop-k-test.true c.loop-k.invariant c.in_ok-add_rival.ensures

pub returns : goal.returns
returns c = among_all c.args.row.rows.now c.args.row.serials.now c.args.row.sound c.args.joined.now c.requires c.args.row.s c.loop-k.k c.loop-k.list c.loop-k-test.false c.loop-k.invariant
