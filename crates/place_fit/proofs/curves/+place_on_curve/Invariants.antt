use Rattle.place_fit.proofs.curves.+place_on_curve.Given as goal

abbrev pub decreases-place_on_curve : goal.decreases-place_on_curve
decreases-place_on_curve l = l.at.level
