-- What the lines mean: each begins as no other does.
use Rattle.spin_checks.proofs.Common.{AreNetsWith, AreRight, BadImage, BadTree, Chip, Description, Edge, Entry, Finding, Graph, Image, IsLoaded, IsMisrouted, Judged, List, NamesMisrouted, Net}
use Rattle.spin_checks.proofs.Common.{NetPlan, OtherMachine, Right, RoutesRight, Some, Spells, Split, Wrong, [], ap, arith, codes, finding_line, line, right_line, slice_get, subst, sym, ℕ, ◌∙◌, ◌∷◌}
use Rattle.spin_checks.proofs.Common.{◌≡◌}
use Rattle.spin_checks.proofs.OneNets.{one_list}

-- the first letter
abbrev letter : List ℕ → ℕ
letter [] = 0
letter (c ∷ cs) = c

abbrev letter_of : Finding → ℕ
letter_of (BadTree net) = 98
letter_of (BadImage at) = 98
letter_of OtherMachine = 111
letter_of (Judged Right) = 114
letter_of (Judged (Wrong net c key)) = 119
letter_of (Judged (Split net c row)) = 115

line_letter : (nets : List Net) (f : Finding) → letter (finding_line nets f) ≡ letter_of f
line_letter nets f = grind arith

-- a line whose first word is wrong
wrong_letter : (words : List (List ℕ)) → letter (line (codes "wrong" ∷ words)) ≡ 119
wrong_letter words = grind arith

same_letter : (nets : List Net) (f : Finding) (text other : List ℕ) → text ≡ finding_line nets f → text ≡ other → letter_of f ≡ letter other
same_letter nets f text other told is = sym (line_letter nets f) ∙ ap letter (sym told ∙ is)

-- the finding that begins as `right`
is_right : (f : Finding) → letter_of f ≡ 114 → f ≡ Judged Right
is_right f at = grind arith

-- the findings that begin as `wrong`
is_wrong : (f : Finding) → letter_of f ≡ 119 → (i : ℕ) × (c : Chip) × (key : ℕ) × (f ≡ Judged (Wrong i c key))
is_wrong f at = grind arith

module _ (m : Description) (graph : Graph) (trees : List (List Edge)) (bytes : List ℕ) (nets : List NetPlan) (are : AreNetsWith m graph trees nets) (f : Finding) (text : List ℕ)
    (told : text ≡ finding_line graph.nets f) where
  pub right_means : (f ≡ Judged Right → (v : Image) (memories : List (List Entry)) → Spells v bytes → IsLoaded v memories → AreRight m memories nets) → text ≡ right_line →
      RoutesRight m graph trees bytes
  right_means right is others v memories also spelled loaded =
      subst (AreRight m memories) (one_list m graph trees nets others are also) (right (is_right f (same_letter graph.nets f text right_line told is)) v memories spelled loaded)

  pub wrong_means : ((i : ℕ) (c : Chip) (key : ℕ) → f ≡ Judged (Wrong i c key) → (net : NetPlan) × (slice_get nets i ≡ Some net)
      × ((v : Image) (memories : List (List Entry)) → Spells v bytes → IsLoaded v memories → IsMisrouted m memories net c key)) →
      (words : List (List ℕ)) → text ≡ line (codes "wrong" ∷ words) → NamesMisrouted m graph trees bytes text
  wrong_means wrong words is =
      let known = is_wrong f (same_letter graph.nets f text (line (codes "wrong" ∷ words)) told is ∙ wrong_letter words) in
      let of = wrong known.0 known.1 known.2 known.3 in
      record {
        nets = nets;
        are = are;
        place = known.0;
        net = of.0;
        there = of.1;
        chip = known.1;
        key = known.2;
        tells = told ∙ ap (finding_line graph.nets) known.3;
        misrouted = of.2;
      }
