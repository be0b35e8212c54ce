-- Trees that grow by branches: each of their chips is reached from the root, in one way.
use Rattle.ner_trees.proofs.Common.{All, All-contains, AllPairs, Chip, Contains, Contains-append_cases, Contains-append_left, Contains-append_right, Contains-cases, Contains-first, Contains-get_or}
use Rattle.ner_trees.proofs.Common.{Contains-later, Contains-none, Contains-push, Contains-push_cases, Description, Dir, Edge, Grows, IsAdded, IsInside, IsNear, IsPath, IsTreeChip, Join, List, Some}
use Rattle.ner_trees.proofs.Common.{[], all_pairs_push, ap, append-nil, append_assoc, arith, cases_lt, displacement_of, distance_of, end_of, end_of_walk, far_inside, far_of, get_or, inl, inr, ldf_of}
use Rattle.ner_trees.proofs.Common.{length, length-append, links_of, map, more_chips, more_path, next_of, path_more, refl, same_Some, subst, suc, sum_by, sum_by-cons, sym, tree_cases, tree_end, ℕ}
use Rattle.ner_trees.proofs.Common.{◌++◌, ◌+◌, ◌<◌, ◌∙◌, ◌∷◌, ◌≡◌, ◌≢◌, ◌≤◌, ◌⊎◌}
use Rattle.ner_trees.proofs.LongestFirst.{ldf_length}

-- the link of a step
abbrev pub link : Chip → Dir → Edge
link c d = record { chip = c; dir = d }

-- Each edge leads somewhere inside the grid, no two into one chip and none into the root, and each chip is reached.
pub record IsSpanning (m : Description) (root : Chip) (tree : List Edge) : Type 0 where
  pub inside : (e : Edge) → Contains tree e → IsInside m e.chip
  pub leads : (e : Edge) → Contains tree e → (c : Chip) × (end_of m e ≡ Some c)
  pub begins : (e : Edge) → Contains tree e → IsTreeChip m root tree e.chip
  pub none_into_root : (e : Edge) → Contains tree e → end_of m e ≢ Some root
  pub apart : AllPairs (λ e f. end_of m e ≢ end_of m f) tree
  pub reached : (c : Chip) → IsTreeChip m root tree c → (path : List Edge) × IsPath m tree root path c

pub spanning_root : (m : Description) (root : Chip) → IsSpanning m root []
spanning_root m root = grind (arith, tree_cases m root, Contains-none)

-- the chips of a spanning tree are inside the grid
pub tree_inside : (m : Description) (root : Chip) (tree : List Edge) → IsInside m root → IsSpanning m root tree → (c : Chip) → IsTreeChip m root tree c → IsInside m c
tree_inside m root tree root_inside is c on = grind (arith, tree_cases m root tree c on, far_inside)

-- an edge that leads from the tree to a chip that is not in it
pub spanning_more : (m : Description) (root : Chip) (tree : List Edge) (e : Edge) (c : Chip) → IsSpanning m root tree → IsInside m e.chip →
    IsTreeChip m root tree e.chip → end_of m e ≡ Some c → (IsTreeChip m root tree c → ⊥) → IsSpanning m root (tree ++ e ∷ [])
spanning_more m root tree e c is e_inside begins leads off = record {
  inside = λ f has. elim (Contains-push_cases tree e f has) [
    | inl old ↦ is.inside f old
    | inr new ↦ subst (λ (g : Edge). IsInside m g.chip) new e_inside
  ];
  leads = λ f has. elim (Contains-push_cases tree e f has) [
    | inl old ↦ is.leads f old
    | inr new ↦ (c, sym (ap (end_of m) new) ∙ leads)
  ];
  begins = λ f has. elim (Contains-push_cases tree e f has) [
    | inl old ↦ more_chips m root tree (e ∷ []) f.chip (is.begins f old)
    | inr new ↦ more_chips m root tree (e ∷ []) f.chip (subst (λ (g : Edge). IsTreeChip m root tree g.chip) new begins)
  ];
  none_into_root = λ f has into. elim (Contains-push_cases tree e f has) [
    | inl old ↦ is.none_into_root f old into
    | inr new ↦
        let at : Some c ≡ Some root = sym leads ∙ (ap (end_of m) new ∙ into) in
        off (inl (same_Some c root at))
  ];
  apart = all_pairs_push (λ f g. end_of m f ≢ end_of m g) tree e is.apart (λ k d within same.
      off (tree_end m root tree (get_or tree k d) c (Contains-get_or tree k d within) (same ∙ leads)));
  reached = λ x on. elim (tree_cases m root (tree ++ e ∷ []) x on) [
    | inl at ↦ ([], sym at)
    | inr into ↦ elim (Contains-push_cases tree e into.0 into.1) [
      | inl old ↦
          let way = is.reached x (tree_end m root tree into.0 x old into.2) in
          (way.0, more_path m tree (e ∷ []) root way.0 x way.1)
      | inr new ↦
          let way = is.reached e.chip begins in
          let at : end_of m e ≡ Some x = ap (end_of m) new ∙ into.2 in
          (way.0 ++ e ∷ [], path_more m (tree ++ e ∷ []) root e.chip x way.0 e (more_path m tree (e ∷ []) root way.0 e.chip way.1) (Contains-push tree e) refl at)
    ]
  ];
}

-- along the walk each step leads somewhere, and to a chip of a greater number
abbrev pub Rises : Description → (Chip → ℕ) → Chip → List Dir → Type 0
Rises m rank c [] = Unit {0}
Rises m rank c (d ∷ ds) =
    (far_of m c d ≡ Some (next_of m c d)) × (rank c < rank (next_of m c d)) × Rises m rank (next_of m c d) ds

-- a walk in two parts
pub walk_end : (m : Description) (c : Chip) (ds es : List Dir) → end_of_walk m c (ds ++ es) ≡ end_of_walk m (end_of_walk m c ds) es
walk_end m c [] es = refl
walk_end m c (d ∷ ds) es = walk_end m (next_of m c d) ds es

pub rises_after : (m : Description) (rank : Chip → ℕ) (c : Chip) (ds es : List Dir) → Rises m rank c (ds ++ es) → Rises m rank (end_of_walk m c ds) es
rises_after m rank c [] es rise = rise
rises_after m rank c (d ∷ ds) es rise = rises_after m rank (next_of m c d) ds es rise.2

pub length-links_of : (m : Description) (c : Chip) (ds : List Dir) → length (links_of m c ds) ≡ length ds
length-links_of m c [] = refl
length-links_of m c (d ∷ ds) = ap suc (length-links_of m (next_of m c d) ds)

-- the links of a rising walk lead somewhere, all to greater numbers
links_lead : (m : Description) (rank : Chip → ℕ) (c : Chip) (ds : List Dir) → Rises m rank c ds → (f : Edge) → Contains (links_of m c ds) f →
    (far_of m f.chip f.dir ≡ Some (next_of m f.chip f.dir)) × (rank c < rank (next_of m f.chip f.dir))
links_lead m rank c [] rise f has = absurd (Contains-none f has)
links_lead m rank c (d ∷ ds) rise f has = elim (Contains-cases (link c d) (links_of m (next_of m c d) ds) f has) [
  | inl same ↦ subst (λ (g : Edge). (far_of m g.chip g.dir ≡ Some (next_of m g.chip g.dir)) × (rank c < rank (next_of m g.chip g.dir))) same (rise.0, rise.1)
  | inr past ↦
      let known = links_lead m rank (next_of m c d) ds rise.2 f past in
      let one : rank c < rank (next_of m c d) = rise.1 in
      let two : rank (next_of m c d) < rank (next_of m f.chip f.dir) = known.1 in
      (known.0, omega arith)
]

-- A branch that leads off the tree makes a larger spanning tree.
pub spanning_branch : (m : Description) (root : Chip) (rank : Chip → ℕ) (tree : List Edge) (c : Chip) (ds : List Dir) → IsSpanning m root tree → IsInside m c →
    IsTreeChip m root tree c → Rises m rank c ds → ((f : Edge) → Contains (links_of m c ds) f → IsTreeChip m root tree (next_of m f.chip f.dir) → ⊥) →
    IsSpanning m root (tree ++ links_of m c ds)
spanning_branch m root rank tree c [] is inside on rise off = subst (λ (es : List Edge). IsSpanning m root es) (sym (append-nil tree)) is
spanning_branch m root rank tree c (d ∷ ds) is inside on rise off =
    let e : Edge = link c d in
    let more : List Edge = links_of m (next_of m c d) ds in
    let tree_more : List Edge = tree ++ e ∷ [] in
    let spans : IsSpanning m root tree_more = spanning_more m root tree e (next_of m c d) is inside on rise.0 (off e (Contains-first e more)) in
    let there : IsTreeChip m root tree_more (next_of m c d) = tree_end m root tree_more e (next_of m c d) (Contains-push tree e) rise.0 in
    let next_inside : IsInside m (next_of m c d) = far_inside m c (next_of m c d) d inside rise.0 in
    subst (λ (es : List Edge). IsSpanning m root es) (append_assoc tree (e ∷ []) more)
    (spanning_branch m root rank tree_more (next_of m c d) ds spans next_inside there rise.2 (λ f has at.
    elim (tree_cases m root tree_more (next_of m f.chip f.dir) at) [
      | inl root_at ↦ off f (Contains-later e more f has) (inl root_at)
      | inr into ↦ elim (Contains-push_cases tree e into.0 into.1) [
        | inl old ↦ off f (Contains-later e more f has) (tree_end m root tree into.0 (next_of m f.chip f.dir) old into.2)
        | inr new ↦
            let known = links_lead m rank (next_of m c d) ds rise.2 f has in
            let same : Some (next_of m c d) ≡ Some (next_of m f.chip f.dir) = sym rise.0 ∙ (ap (end_of m) new ∙ into.2) in
            let one : rank (next_of m c d) ≡ rank (next_of m f.chip f.dir) = ap rank (same_Some (next_of m c d) (next_of m f.chip f.dir) same) in
            let less : rank (next_of m c d) < rank (next_of m f.chip f.dir) = known.1 in
            omega arith
      ]
    ]))

-- the chips of a branch: each is its last one, or another link begins there
branch_on : (m : Description) (c : Chip) (ds : List Dir) (f : Edge) → Contains (links_of m c ds) f →
    (next_of m f.chip f.dir ≡ end_of_walk m c ds) ⊎ ((g : Edge) × Contains (links_of m c ds) g × (g.chip ≡ next_of m f.chip f.dir))
branch_on m c [] f has = absurd (Contains-none f has)
branch_on m c (d ∷ []) f has = grind (arith, Contains-cases (link c d), Contains-none)
branch_on m c (d ∷ (e ∷ ds)) f has = elim (Contains-cases (link c d) (links_of m (next_of m c d) (e ∷ ds)) f has) [
  | inl same ↦
      inr (
        link (next_of m c d) e,
        Contains-later (link c d) (links_of m (next_of m c d) (e ∷ ds)) (link (next_of m c d) e) (Contains-first (link (next_of m c d) e) (links_of m (next_of m (next_of m c d) e) ds)),
        ap (λ (g : Edge). next_of m g.chip g.dir) same,
      )
  | inr past ↦ elim (branch_on m (next_of m c d) (e ∷ ds) f past) [
    | inl ends ↦ inl ends
    | inr goes ↦ inr (goes.0, Contains-later (link c d) (links_of m (next_of m c d) (e ∷ ds)) goes.0 goes.1, goes.2)
  ]
]

-- the chip where a branch ends is in the tree with the branch
branch_ends : (m : Description) (root : Chip) (rank : Chip → ℕ) (tree : List Edge) (c : Chip) (ds : List Dir) → Rises m rank c ds → IsTreeChip m root tree c →
    ((f : Edge) → Contains (links_of m c ds) f → Contains tree f) → IsTreeChip m root tree (end_of_walk m c ds)
branch_ends m root rank tree c [] rise on sub = on
branch_ends m root rank tree c (d ∷ ds) rise on sub =
    branch_ends m root rank tree (next_of m c d) ds rise.2
    (tree_end m root tree (link c d) (next_of m c d) (sub (link c d) (Contains-first (link c d) (links_of m (next_of m c d) ds))) rise.0)
    (λ f has. sub f (Contains-later (link c d) (links_of m (next_of m c d) ds) f has))

-- each chip of the tree is its root or a target, or an edge begins there
abbrev pub IsEnded : Description → Chip → List Chip → List Edge → Type 0
IsEnded m root targets tree = (c : Chip) → IsTreeChip m root tree c → (c ≡ root) ⊎ (((e : Edge) × Contains tree e × (e.chip ≡ c)) ⊎ Contains targets c)

ended_branch : (m : Description) (root : Chip) (rank : Chip → ℕ) (targets : List Chip) (tree : List Edge) (c : Chip) (ds : List Dir) → IsEnded m root targets tree →
    Rises m rank c ds → Contains targets (end_of_walk m c ds) → IsEnded m root targets (tree ++ links_of m c ds)
ended_branch m root rank targets tree c ds is rise wanted x on = elim (tree_cases m root (tree ++ links_of m c ds) x on) [
  | inl at ↦ inl at
  | inr into ↦ elim (Contains-append_cases tree (links_of m c ds) into.0 into.1) [
    | inl old ↦ elim (is x (tree_end m root tree into.0 x old into.2)) [
      | inl at ↦ inl at
      | inr (inl goes) ↦ inr (inl (goes.0, Contains-append_left tree (links_of m c ds) goes.0 goes.1, goes.2))
      | inr (inr target) ↦ inr (inr target)
    ]
    | inr new ↦
        let known = links_lead m rank c ds rise into.0 new in
        let at : next_of m into.0.chip into.0.dir ≡ x = same_Some (next_of m into.0.chip into.0.dir) x (sym known.0 ∙ into.2) in
        elim (branch_on m c ds into.0 new) [
          | inl ends ↦ inr (inr (subst (λ (y : Chip). Contains targets y) (sym ends ∙ at) wanted))
          | inr goes ↦ inr (inl (goes.0, Contains-append_right tree (links_of m c ds) goes.0 goes.1, goes.2 ∙ at))
        ]
  ]
]

-- the walk between two chips rises and arrives
pub record Walks (m : Description) (from to : Chip) : Type 0 where
  pub rank : Chip → ℕ
  pub rises : Rises m rank from (ldf_of (displacement_of m from to))
  pub arrives : end_of_walk m from (ldf_of (displacement_of m from to)) ≡ to

-- the chip to which a target is joined is in the tree, and no farther from the target than the root
near_on : (m : Description) (root : Chip) (tree : List Edge) (t near : Chip) → IsNear m root tree t near → IsTreeChip m root tree near
near_on m root tree t near its_5 = grind arith

near_low : (m : Description) (root : Chip) (tree : List Edge) (t near : Chip) → IsNear m root tree t near → distance_of m near t ≤ distance_of m root t
near_low m root tree t near its_5 = grind (arith, cases_lt)

-- What comes of growing: the tree spans its targets, has edges out of all other chips, and few edges.
pub record Outcome (m : Description) (root : Chip) (targets : List Chip) (tree whole : List Edge) (joins : List Join) : Type 0 where
  pub spans : IsSpanning m root whole
  pub ended : IsEnded m root targets whole
  pub more : (c : Chip) → IsTreeChip m root tree c → IsTreeChip m root whole c
  pub has : (t : Chip) → Contains (map (λ j. j.target) joins) t → IsTreeChip m root whole t
  pub few : length whole ≤ length tree + sum_by (distance_of m root) (map (λ j. j.target) joins)

module _ (m : Description) (root : Chip) (root_inside : IsInside m root) (targets : List Chip) (targets_inside : (t : Chip) → Contains targets t → IsInside m t)
    (walks : (p q : Chip) → IsInside m p → IsInside m q → Walks m p q) where
  -- one join
  pub record Joined (tree added : List Edge) (j : Join) : Type 0 where
    pub spans : IsSpanning m root (tree ++ added)
    pub ended : IsEnded m root targets (tree ++ added)
    pub there : IsTreeChip m root (tree ++ added) j.target
    pub few : length added ≤ distance_of m root j.target

  joined : (tree added : List Edge) (j : Join) → Contains targets j.target → IsSpanning m root tree → IsEnded m root targets tree → IsNear m root tree j.target j.near →
      IsAdded m root tree j added → Joined tree added j
  joined tree added j wanted spans ended near is =
      let near_inside : IsInside m j.near = tree_inside m root tree root_inside spans j.near (near_on m root tree j.target j.near near) in
      let way = walks j.near j.target near_inside (targets_inside j.target wanted) in
      let rise : Rises m way.rank j.near (is.passed ++ is.rest) = subst (λ (ds : List Dir). Rises m way.rank j.near ds) is.walk way.rises in
      let here : Rises m way.rank j.start is.rest = subst (λ (c : Chip). Rises m way.rank c is.rest) is.start_is (rises_after m way.rank j.near is.passed is.rest rise) in
      let arrives : end_of_walk m j.start is.rest ≡ j.target =
      ap (λ (c : Chip). end_of_walk m c is.rest) (sym is.start_is) ∙ (sym (walk_end m j.near is.passed is.rest) ∙ (ap (end_of_walk m j.near) (sym is.walk) ∙ way.arrives)) in
      let start_inside : IsInside m j.start = tree_inside m root tree root_inside spans j.start is.on_tree in
      let branch : List Edge = links_of m j.start is.rest in
      let off : (f : Edge) → Contains branch f → IsTreeChip m root tree (next_of m f.chip f.dir) → ⊥ =
      λ f has. All-contains (λ e. IsTreeChip m root tree (next_of m e.chip e.dir) → ⊥) branch f
      (subst (λ (es : List Edge). All (λ e. IsTreeChip m root tree (next_of m e.chip e.dir) → ⊥) es) is.added_is is.off_tree) has in
      let same : tree ++ branch ≡ tree ++ added = ap (λ es. tree ++ es) (sym is.added_is) in
      let all : length (ldf_of (displacement_of m j.near j.target)) ≡ distance_of m j.near j.target = ldf_length (displacement_of m j.near j.target) in
      let parts : length (ldf_of (displacement_of m j.near j.target)) ≡ length is.passed + length is.rest = ap length is.walk ∙ length-append is.passed is.rest in
      let long : length added ≡ length is.rest = ap length is.added_is ∙ length-links_of m j.start is.rest in
      let low : distance_of m j.near j.target ≤ distance_of m root j.target = near_low m root tree j.target j.near near in
      record {
        spans = subst (λ (es : List Edge). IsSpanning m root es) same (spanning_branch m root way.rank tree j.start is.rest spans start_inside is.on_tree here off);
        ended = subst (λ (es : List Edge). IsEnded m root targets es) same
            (ended_branch m root way.rank targets tree j.start is.rest ended here (subst (λ (c : Chip). Contains targets c) (sym arrives) wanted));
        there = subst (λ (es : List Edge). IsTreeChip m root es j.target) same
            (subst (λ (c : Chip). IsTreeChip m root (tree ++ branch) c) arrives
            (branch_ends m root way.rank (tree ++ branch) j.start is.rest here (more_chips m root tree branch j.start is.on_tree)
            (λ f has. Contains-append_right tree branch f has)));
        few = lengths _ _ _ _ _ _ long parts all low;
      }
    where
      lengths : (a b c d e f : ℕ) → a ≡ b → c ≡ d + b → c ≡ e → e ≤ f → a ≤ f
      lengths a b c d e f p q r s = omega arith

  pub grown : (joins : List Join) (tree whole : List Edge) → ((t : Chip) → Contains (map (λ j. j.target) joins) t → Contains targets t) → IsSpanning m root tree →
      IsEnded m root targets tree → Grows m root tree joins whole → Outcome m root targets tree whole joins
  grown [] tree whole wanted spans ended grows = record {
    spans = subst (λ (es : List Edge). IsSpanning m root es) grows spans;
    ended = subst (λ (es : List Edge). IsEnded m root targets es) grows ended;
    more = λ c on. subst (λ (es : List Edge). IsTreeChip m root es c) grows on;
    has = λ t has. absurd (Contains-none t has);
    few = let same : length tree ≡ length whole = ap length grows in omega arith;
  }
  grown (j ∷ joins) tree whole wanted spans ended grows =
      let added : List Edge = grows.1.0 in
      let ts : List Chip = map (λ j. j.target) joins in
      let one = joined tree added j (wanted j.target (Contains-first j.target ts)) spans ended grows.0 grows.1.1 in
      let rest = grown joins (tree ++ added) whole (λ t has. wanted t (Contains-later j.target ts t has)) one.spans one.ended grows.1.2 in
      let few : length whole ≤ length (tree ++ added) + sum_by (distance_of m root) ts = rest.few in
      let long : length (tree ++ added) ≡ length tree + length added = length-append tree added in
      let sum : sum_by (distance_of m root) (j.target ∷ ts) ≡ distance_of m root j.target + sum_by (distance_of m root) ts = sum_by-cons (distance_of m root) j.target ts in
      let low : length added ≤ distance_of m root j.target = one.few in
      record {
        spans = rest.spans;
        ended = rest.ended;
        more = λ c on. rest.more c (more_chips m root tree added c on);
        has = λ t has. elim (Contains-cases j.target ts t has) [
          | inl same ↦ subst (λ (c : Chip). IsTreeChip m root whole c) same (rest.more j.target one.there)
          | inr past ↦ rest.has t past
        ];
        few = lengths _ _ _ _ _ _ _ few long sum low;
      }
    where
      lengths : (a b c d e f g : ℕ) → a ≤ b + c → b ≡ d + e → f ≡ g + c → e ≤ g → a ≤ d + f
      lengths a b c d e f g p q r s = omega arith
