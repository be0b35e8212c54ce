-- Shares with the same copies.
use Rattle.mesh_run.proofs.Common.{End, SameCopies, SameEnd, Share, arith, same_Some, slice_get_there, slice_get_within, ◌∙◌, ◌≡◌}

pub end_same : (e : End) → SameEnd e e
end_same e = grind arith

pub end_on : (x y z : End) → SameEnd x y → SameEnd y z → SameEnd x z
end_on x y z first second = grind arith

pub copies_same : (s : Share) → SameCopies s s
copies_same s = grind (arith, same_Some, end_same)

pub copies_on : (a b c : Share) → SameCopies a b → SameCopies b c → SameCopies a c
copies_on a b c first second = record {
  from = second.from ∙ first.from;
  to = second.to ∙ first.to;
  ends_long = second.ends_long ∙ first.ends_long;
  ends = λ q x z at also.
      let y = slice_get_there b.hold.ends.items q (omega (arith, slice_get_within a.hold.ends.items q x at, first.ends_long)) in
      end_on x y.0 z (first.ends q x y.0 at y.1) (second.ends q y.0 z y.1 also);
  unsent = second.unsent ∙ first.unsent;
  dumps = second.dumps ∙ first.dumps;
  deliveries = second.deliveries ∙ first.deliveries;
}

-- room is made in logs, and nothing else changes that is seen
pub logs_made : (a b c : Share) → SameCopies a b → c.from ≡ b.from → c.to ≡ b.to → c.hold.ends ≡ b.hold.ends → c.hold.unsent ≡ b.hold.unsent → c.hold.dumps.items ≡ b.hold.dumps.items →
    c.hold.deliveries.items ≡ b.hold.deliveries.items → SameCopies a c
logs_made a b c first from to ends unsent dumps deliveries = grind (arith, copies_on, same_Some, end_same)
