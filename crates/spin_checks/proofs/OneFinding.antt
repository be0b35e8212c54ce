-- Nets and bytes have one finding.
use Rattle.spin_checks.proofs.Common.{All, All-at, BadImage, BadTree, Description, Finding, HasGoodTree, Image, IsFinding, IsFirstBad, IsOfGrid, IsRouted, Judged, List, NetPlan, None, Option}
use Rattle.spin_checks.proofs.Common.{OtherMachine, Some, Spells, StandsOnSites, Verdict, [], ap, append-nil, arith, cases_order, fault_of, refl, subst, sym, ℕ, ◌++◌, ◌≡◌}
use Rattle.spin_checks.proofs.OneVerdict.{one_verdict}

-- a net with a good tree, on sites, is routed
pub routed_net : (m : Description) (net : NetPlan) → HasGoodTree m net → StandsOnSites m net → IsRouted m net
routed_net m net good sites = grind arith

pub routed_nets : (m : Description) (nets : List NetPlan) → All (HasGoodTree m) nets → All (StandsOnSites m) nets → All (IsRouted m) nets
routed_nets m nets good sites k d below = routed_net m _ (good k d below) (sites k d below)

-- ---- what is known of images

-- bytes that spell an image have no fault, and spell one image
pub record AreLaws : Type 0 where
  pub spelled : (v : Image) (bytes : List ℕ) → Spells v bytes → fault_of bytes ≡ None
  pub apart : (v w : Image) (bytes more : List ℕ) → Spells v bytes → Spells w (bytes ++ more) → (more ≡ []) × (v ≡ w)

pub one_image : AreLaws → (v w : Image) (bytes : List ℕ) → Spells v bytes → Spells w bytes → v ≡ w
one_image laws v w bytes one other = (laws.apart v w bytes [] one (subst (Spells w) (sym (append-nil bytes)) other)).1

no_fault : AreLaws → (v : Image) (bytes : List ℕ) (at : ℕ) → Spells v bytes → fault_of bytes ≡ Some at → ⊥
no_fault laws v bytes at is fault = grind arith

one_fault : (o : Option ℕ) (a b : ℕ) → o ≡ Some a → o ≡ Some b → a ≡ b
one_fault o a b one other = cc

-- ---- findings

module _ (laws : AreLaws) (m : Description) (nets : List NetPlan) (bytes : List ℕ) (sites : All (StandsOnSites m) nets) where
  one_bad : (i j : ℕ) → IsFirstBad m nets i → IsFirstBad m nets j → i ≡ j
  one_bad i j x y = grind (arith, cases_order i j)

  not_good : (i : ℕ) → IsFirstBad m nets i → All (HasGoodTree m) nets → ⊥
  not_good i x good = x.bad (All-at (HasGoodTree m) nets i x.net good x.there)

  judged_once : (a b : Verdict) → IsFinding m nets bytes (Judged a) → IsFinding m nets bytes (Judged b) → a ≡ b
  judged_once a b x y = grind (arith, routed_nets m nets x.0 sites, one_image laws x.1 y.1 bytes x.2 y.2, one_verdict)

  not_other : (a : Verdict) → IsFinding m nets bytes OtherMachine → IsFinding m nets bytes (Judged a) → ⊥
  not_other a x y = x.3 (subst (IsOfGrid m) (sym (one_image laws x.1 y.1 bytes x.2 y.2)) y.3)

  pub one_finding : (f g : Finding) → IsFinding m nets bytes f → IsFinding m nets bytes g → f ≡ g
  one_finding (BadTree i) (BadTree j) x y = ap BadTree (one_bad i j x y)
  one_finding (BadTree i) (BadImage at) x y = absurd (not_good i x y.0)
  one_finding (BadTree i) OtherMachine x y = absurd (not_good i x y.0)
  one_finding (BadTree i) (Judged b) x y = absurd (not_good i x y.0)
  one_finding (BadImage at) (BadTree j) x y = absurd (not_good j y x.0)
  one_finding (BadImage at) (BadImage other) x y = ap BadImage (one_fault (fault_of bytes) at other x.1 y.1)
  one_finding (BadImage at) OtherMachine x y = absurd (no_fault laws y.1 bytes at y.2 x.1)
  one_finding (BadImage at) (Judged b) x y = absurd (no_fault laws y.1 bytes at y.2 x.1)
  one_finding OtherMachine (BadTree j) x y = absurd (not_good j y x.0)
  one_finding OtherMachine (BadImage at) x y = absurd (no_fault laws x.1 bytes at x.2 y.1)
  one_finding OtherMachine OtherMachine x y = refl
  one_finding OtherMachine (Judged b) x y = absurd (not_other b x y)
  one_finding (Judged a) (BadTree j) x y = absurd (not_good j y x.0)
  one_finding (Judged a) (BadImage at) x y = absurd (no_fault laws x.1 bytes at x.2 y.1)
  one_finding (Judged a) OtherMachine x y = absurd (not_other a y x)
  one_finding (Judged a) (Judged b) x y = ap Judged (judged_once a b x y)
