-- Generated jobs have room, keys and ways.
use Rattle.job_gen.proofs.Common.{All, All-at, All-cons, All-head, All-nil, All-tail, AreKeysOut, Chip, Drawn, DrawnNet, HasDeviceRoom, HasNoRoom, IsCoreFor, IsDrawn, IsDrawnNet, IsFirstNetCutOff}
use Rattle.job_gen.proofs.Common.{IsLiveChip, IsPlacement, List, MatchOption, Net, Some, Spot, [], and_parts, arith, device_spot, drawn, fixed_of, generated_board, is_live_chip, length, length-map}
use Rattle.job_gen.proofs.Common.{packet_of, refl, slice_get, slice_get_there, slice_get_within, subst, sym, take, ℕ, ◌+◌, ◌<◌, ◌∙◌, ◌∷◌, ◌≡◌, ◌≤◌}
use Rattle.job_gen.specs.{Generated.gen_job, Generated.generated_run, Generated.generated_vertex, Generated.graph_of, Generated.job_of_drawn, Generated.net_of, Values.numbered}
use Rattle.job_gen.proofs.{DrawnLaws.is_drawn, ListReading.length-numbered, Joined.not_cut_off, Keyed.NeedsFew, Keyed.keys_are_left, Roomy.IsSmall, Roomy.room_is_left}

-- what each numbered item has
all_numbered : {X A : Type 0} (P : X → Type 0) (Q : A → Type 0) (f : ℕ → X → A) → ((i : ℕ) (x : X) → P x → Q (f i x)) → (i : ℕ) (xs : List X) → All P xs → All Q (numbered f i xs)
unfolding numbered
all_numbered P Q f each i [] all = All-nil Q
all_numbered P Q f each i (x ∷ xs) all =
    All-cons Q (f i x) (numbered f (i + 1) xs) (each i x (All-head P x xs all)) (all_numbered P Q f each (i + 1) xs (All-tail P x xs all))

-- ---- vertices and nets

small_vertex : (i sdram : ℕ) → sdram ≤ 1048576 → IsSmall (generated_vertex i sdram)
unfolding generated_vertex
small_vertex i sdram few = record { at = refl; device = refl; sdram = few }

few_keys : (i : ℕ) (net : DrawnNet) → IsDrawnNet net → NeedsFew (net_of i net)
unfolding net_of
few_keys i net is = record { free = refl; some = is.some_key; few = is.few_keys }

none_fixed : (i : ℕ) (nets : List DrawnNet) → fixed_of (numbered net_of i nets) ≡ []
unfolding numbered net_of
none_fixed i [] = refl
none_fixed i (n ∷ nets) = none_fixed (i + 1) nets

module _ (job : Drawn) (is : IsDrawn job) where
  vertices_small : All IsSmall (numbered generated_vertex 0 job.sdrams)
  vertices_small = all_numbered (λ s. s ≤ 1048576) IsSmall generated_vertex small_vertex 0 job.sdrams is.sdrams

  room : (i : ℕ) → HasNoRoom generated_board (numbered generated_vertex 0 job.sdrams) i → ⊥
  room i = room_is_left (numbered generated_vertex 0 job.sdrams) i (omega (arith, length-numbered generated_vertex 0 job.sdrams, is.vertices)) vertices_small

  keys : (i : ℕ) → AreKeysOut (numbered net_of 0 job.nets) i → ⊥
  keys = keys_are_left (numbered net_of 0 job.nets)
      (λ i net at. All-at NeedsFew (numbered net_of 0 job.nets) i net (all_numbered IsDrawnNet NeedsFew net_of few_keys 0 job.nets is.nets) at)
      (none_fixed 0 job.nets)
      (omega (arith, length-numbered net_of 0 job.nets, is.number_of_nets))

  -- a spot of a placement is on a live chip
  live_spot : (spots : List Spot) (memory : List ℕ) → IsPlacement generated_board (numbered generated_vertex 0 job.sdrams) spots memory → (i : ℕ) (s : Spot) → slice_get spots i ≡ Some s →
      IsLiveChip generated_board s.chip
  live_spot spots memory placed i s at =
      let below : i < length spots = slice_get_within spots i s at in
      let vertex = slice_get_there (numbered generated_vertex 0 job.sdrams) i (omega (arith, below, placed.all)) in
      let small : IsSmall vertex.0 = All-at IsSmall (numbered generated_vertex 0 job.sdrams) i vertex.0 vertices_small vertex.1 in
      let core : IsCoreFor generated_board placed.order (take i (numbered generated_vertex 0 job.sdrams)) (take i spots) vertex.0 s =
      subst (λ o. MatchOption o (IsCoreFor generated_board placed.order (take i (numbered generated_vertex 0 job.sdrams)) (take i spots) vertex.0 s)
      (λ device. HasDeviceRoom generated_board device × (s ≡ device_spot device)))
      small.device (placed.first.each i vertex.0 s vertex.1 at) in
      (and_parts (is_live_chip generated_board s.chip) _ (and_parts _ _ core.free).0).0

  joined : (i : ℕ) (spots : List Spot) (memory : List ℕ) (target : Chip) → IsPlacement generated_board (numbered generated_vertex 0 job.sdrams) spots memory → (nets : List Net) →
      IsFirstNetCutOff generated_board spots nets i target → ⊥
  joined i spots memory target placed nets cut =
      let here = cut.target.is in
      not_cut_off cut.target.source.chip target
      (live_spot spots memory placed cut.net.source cut.target.source here.from)
      (subst (IsLiveChip generated_board) here.on (live_spot spots memory placed here.vertex here.spot here.at))
      here.cut_off

-- ---- generated jobs

pub gen_room : (n i : ℕ) → HasNoRoom (gen_job n).machine (gen_job n).graph.vertices i → ⊥
unfolding gen_job job_of_drawn graph_of
gen_room n = room (drawn n) (is_drawn n)

pub gen_keys : (n i : ℕ) → AreKeysOut (gen_job n).graph.nets i → ⊥
unfolding gen_job job_of_drawn graph_of
gen_keys n = keys (drawn n) (is_drawn n)

pub gen_joined : (n i : ℕ) (spots : List Spot) (memory : List ℕ) (target : Chip)
    → IsPlacement (gen_job n).machine (gen_job n).graph.vertices spots memory
    → IsFirstNetCutOff (gen_job n).machine spots (gen_job n).graph.nets i target → ⊥
unfolding gen_job job_of_drawn graph_of
gen_joined n i spots memory target placed = joined (drawn n) (is_drawn n) i spots memory target placed (gen_job n).graph.nets

-- ---- how many there are

pub gen_machine : (n : ℕ) → (gen_job n).machine ≡ generated_board
unfolding gen_job job_of_drawn
gen_machine n = refl

pub gen_vertices : (n : ℕ) → length (gen_job n).graph.vertices ≡ 200
unfolding gen_job job_of_drawn graph_of
gen_vertices n = length-numbered generated_vertex 0 (drawn n).sdrams ∙ (is_drawn n).vertices

pub gen_nets : (n : ℕ) → length (gen_job n).graph.nets ≡ 300
unfolding gen_job job_of_drawn graph_of
gen_nets n = length-numbered net_of 0 (drawn n).nets ∙ (is_drawn n).number_of_nets

pub gen_packets : (n : ℕ) → length (gen_job n).run.packets ≡ 1200
unfolding gen_job job_of_drawn generated_run
gen_packets n = length-map (drawn n).packets packet_of ∙ (is_drawn n).number_of_packets

pub gen_queue : (n : ℕ) → (gen_job n).run.queue ≡ length (gen_job n).run.packets
unfolding gen_job job_of_drawn generated_run
gen_queue n = sym (gen_packets n)

pub gen_events : (n : ℕ) → (gen_job n).run.events ≡ []
unfolding gen_job job_of_drawn generated_run
gen_events n = refl
