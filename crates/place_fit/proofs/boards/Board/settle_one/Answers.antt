use Rattle.place_fit.proofs.Common.{refl}
use Rattle.place_fit.proofs.Giving.{settled_one}
use Rattle.place_fit.proofs.boards.Board.settle_one.Goals as goal

pub returns-in-Some-clause-settled : goal.returns-in-Some-clause-settled
returns-in-Some-clause-settled c =
    let b = c.args.self.now in
    settled_one b b c.make_whole.new.self c.args.spot c.in-Some.place refl refl refl refl c.in-Some.ensures.there (λ q other. refl) c.make_whole.ensures
