-- Runs of actors, the numbers of their shares, homes of queues, and cuts.
use Rattle.mesh_run.proofs.Common.{All-append, All-at, All-nil, All-push, All-replicate, AreCutsOf, AreHomesOf, AreHomesTo, AreShareRuns, Core, Cut, HaveSenders, Home, IsBefore, IsInRun, IsInTable}
use Rattle.mesh_run.proofs.Common.{IsLiveIndex, IsOutput, IsShareTable, List, MayCut, MayGrow, None, Option, Out, SetsSender, Setup, Some, [], ap, arith, bank_place, cases_eq, cases_lt, chip_of}
use Rattle.mesh_run.proofs.Common.{chip_of-inside, dir_at, dir_number-dir_at, get_or, get_or_append_left, get_or_push, grid_size, homes_of_ports, index_of, index_of-chip_of, injection_place, inl, inr}
use Rattle.mesh_run.proofs.Common.{length, length-append, length-set, length_push, live_inside, none-some, out_number, out_number_below, out_number_injective, place_behind, refl, replicate}
use Rattle.mesh_run.proofs.Common.{router_place, run_start, same_Some, set, slice_get, slice_get-append_left, slice_get-get_or, slice_get-pushed, slice_get-set_other, slice_get_within, subst, suc}
use Rattle.mesh_run.proofs.Common.{sym, ℕ, ◌*◌, ◌++◌, ◌+◌, ◌-◌, ◌<◌, ◌^◌, ◌∙◌, ◌∷◌, ◌≡◌, ◌≢◌, ◌≤◌, ◌⊎◌}
use Rattle.spin_base.specs.declared.routes.Out.TheVariants.{Link}
use Rattle.mesh_run.proofs.{Apart.no_injection, Apart.one_output, Going.next_too, Going.pushed, Going.was_set, FloorLaws.live_below, FloorLaws.slice_get-first, FloorLaws.slice_get-second}

-- ---- runs

-- ends so far, none beyond a place
pub record RiseTo (place : ℕ) (ends : List ℕ) : Type 0 where
  pub rising : (a b : ℕ) → a < b → b < length ends → get_or ends a 0 ≤ get_or ends b 0
  pub most : (a : ℕ) → a < length ends → get_or ends a 0 ≤ place
  pub few : length ends ≤ place

pub rise_none : (ends : List ℕ) → ends ≡ [] → RiseTo 0 ends
rise_none ends none = grind arith

pushed_rises : (p : ℕ) (ends : List ℕ) → RiseTo p ends → (a b : ℕ) → a < b → b < length (ends ++ p ∷ []) → get_or (ends ++ p ∷ []) a 0 ≤ get_or (ends ++ p ∷ []) b 0
pushed_rises p ends so_far a b less below = grind (arith, length_push, get_or, get_or_append_left, cases_lt, get_or_push)

pub rise_more : (p : ℕ) (before after : List ℕ) → RiseTo p before → MayGrow p before after → RiseTo (p + 1) after
rise_more p before after so_far (inl same) = grind arith
rise_more p before after so_far (inr grown) = grind (arith, length_push, pushed_rises, cases_lt, get_or, get_or_append_left, get_or_push)

pub runs_all : (p count : ℕ) (before after : List ℕ) → p ≡ count → RiseTo p before → after ≡ before ++ count ∷ [] → AreShareRuns count after
runs_all p count before after all so_far grown = grind (arith, length_push, pushed_rises, get_or_push)

-- ---- the numbers of shares

pub record TableTo (ends : List ℕ) (n : ℕ) (table : List ℕ) : Type 0 where
  pub long : length table ≡ run_start ends n
  pub done : (a k : ℕ) → k < n → IsInRun (run_start ends k) (get_or ends k 0) a → slice_get table a ≡ Some k
  pub below : (a k : ℕ) → slice_get table a ≡ Some k → k < n

-- the run at hand, up to a place
pub record RunTo (ends : List ℕ) (n p : ℕ) (table : List ℕ) : Type 0 where
  pub long : length table ≡ p
  pub done : (a k : ℕ) → k < n → IsInRun (run_start ends k) (get_or ends k 0) a → slice_get table a ≡ Some k
  pub here : (a : ℕ) → run_start ends n ≤ a → a < p → slice_get table a ≡ Some n
  pub below : (a k : ℕ) → slice_get table a ≡ Some k → k < n + 1

pub start_more : (ends : List ℕ) (k : ℕ) → run_start ends (k + 1) ≡ get_or ends k 0
start_more ends k = let e : k + 1 ≡ suc k = omega arith in ap (run_start ends) e

-- the run of a number is no shorter than nothing
pub run_from : (count : ℕ) (ends : List ℕ) (n : ℕ) → AreShareRuns count ends → n < length ends → run_start ends n ≤ get_or ends n 0
run_from count ends n runs below = grind arith

pub table_none : (ends table : List ℕ) → table ≡ [] → TableTo ends 0 table
table_none ends table none = grind (arith, none-some)

pub run_more : (ends : List ℕ) (n p : ℕ) (table new : List ℕ) → RunTo ends n p table → new ≡ table ++ n ∷ [] → RunTo ends n (p + 1) new
run_more ends n p table new so_far is = record {
  long = ap length is ∙ (length_push table n ∙ ap (λ k. k + 1) so_far.long);
  done = λ a k less in_run. ap (λ l. slice_get l a) is ∙ slice_get-append_left table (n ∷ []) a k (so_far.done a k less in_run);
  here = λ a from to. ap (λ l. slice_get l a) is ∙ elim (cases_eq a p) [
    | inl same ↦ slice_get-pushed table n a (same ∙ sym so_far.long)
    | inr other ↦ slice_get-append_left table (n ∷ []) a n (so_far.here a from (omega (arith, to, other)))
  ];
  below = pushed (λ a k. k < n + 1) table n new is so_far.below (omega arith);
}

pub run_all : (ends : List ℕ) (n p : ℕ) (table : List ℕ) → RunTo ends n p table → p ≡ get_or ends n 0 → TableTo ends (n + 1) table
run_all ends n p table so_far all = grind (arith, start_more ends n, get_or ends n 0, cases_eq)

pub table_all : (count : ℕ) (ends : List ℕ) (n : ℕ) (table : List ℕ) → AreShareRuns count ends → n ≡ length ends → TableTo ends n table → IsShareTable count ends table
table_all count ends n table runs all so_far = grind arith

-- ---- homes

pub homes_none : (table : List ℕ) (homes : List Home) → homes ≡ [] → AreHomesTo table 0 0 homes
homes_none table homes none = grind (arith, All-nil (IsInTable table))

pub ports_more : (table : List ℕ) (n router bank : ℕ) (homes new : List Home) → AreHomesTo table n 0 homes → slice_get table (router_place n) ≡ Some router →
    slice_get table (bank_place n) ≡ Some bank → new ≡ homes ++ homes_of_ports router bank → AreHomesTo table (n + 1) 0 new
ports_more table n router bank homes new so_far at_router at_bank is = subst (AreHomesTo table (n + 1) 0) (sym is) (
    let long = so_far.long in
    let added = length-append homes (homes_of_ports router bank) in
    let one : IsInTable table (record { sender = router; receiver = router }) = record { sender_at = router_place n; sender = at_router; receiver_at = router_place n; receiver = at_router } in
    let other : IsInTable table (record { sender = bank; receiver = router }) = record { sender_at = bank_place n; sender = at_bank; receiver_at = router_place n; receiver = at_router } in
    record {
      long = omega (arith, long, added);
      listed = All-append (IsInTable table) homes (homes_of_ports router bank) so_far.listed (All-append (IsInTable table) (replicate 6 (record { sender = router; receiver = router }))
          (record { sender = bank; receiver = router } ∷ []) (All-replicate (IsInTable table) 6 (record { sender = router; receiver = router }) one)
          (All-push (IsInTable table) [] (record { sender = bank; receiver = router }) (All-nil (IsInTable table)) other));
      banks = λ i k h below at_k at_h. elim (cases_eq i n) [
        | inl same ↦
            let place : injection_place i ≡ length homes + 6 = omega (arith, same, long) in
            let stands : slice_get (homes ++ homes_of_ports router bank) (injection_place i) ≡ Some (record { sender = bank; receiver = router }) =
            ap (slice_get (homes ++ homes_of_ports router bank)) place ∙ slice_get-second homes (homes_of_ports router bank) 6 in
            let is_h : record { sender = bank; receiver = router } ≡ h = same_Some (record { sender = bank; receiver = router }) h (sym stands ∙ at_h) in
            let is_k : bank ≡ k = same_Some bank k (sym at_bank ∙ (ap (λ (j : ℕ). slice_get table (bank_place j)) (sym same) ∙ at_k)) in
            sym (ap (λ (x : Home). x.sender) is_h) ∙ is_k
        | inr differs ↦
            so_far.banks i k h (omega (arith, below, differs)) at_k (sym (slice_get-first homes (homes_of_ports router bank) (injection_place i) (omega (arith, below, differs, long))) ∙ at_h)
      ];
    })

pub vertex_more : (table : List ℕ) (chips m : ℕ) (home : Home) (homes new : List Home) → AreHomesTo table chips m homes → IsInTable table home → new ≡ homes ++ home ∷ [] →
    AreHomesTo table chips (m + 1) new
vertex_more table chips m home homes new so_far listed is = grind (arith, length_push homes home, All-push (IsInTable table) homes home so_far.listed listed, slice_get-first)

-- ---- senders

-- the indices of live chips on the same chip are the same
pub same_chip : (u : Setup) (i j : ℕ) → IsLiveIndex u i → IsLiveIndex u j → chip_of u.machine i ≡ chip_of u.machine j → i ≡ j
same_chip u i j first second same = sym first.is ∙ (ap (index_of u.machine) same ∙ second.is)

-- each number below 24 is an output's
pub output_of : (n : ℕ) → n < 24 → (o : Out) × IsOutput o × (out_number o ≡ n)
output_of n below = elim (cases_lt n 6) [
  | inl link ↦ (Link (dir_at n), tt, dir_number-dir_at n link)
  | inr core ↦ (Core (n - 6), omega (arith, below, core), omega (arith, core))
]

-- an output more
pub senders_more : (u : Setup) (table : List ℕ) (n m sender : ℕ) (place : Option ℕ) (p : Out) (homes new : List Home) → HaveSenders u table n m homes → IsLiveIndex u n → n < grid_size u →
    IsOutput p → out_number p ≡ m →
    place ≡ place_behind u (chip_of u.machine n) p → slice_get table (router_place n) ≡ Some sender → SetsSender place sender homes new → HaveSenders u table n (m + 1) new
senders_more u table n m sender place p homes new so_far live below_n output number is_place at_sender sets = record {
  homes_are = record {
    long = sets.long ∙ so_far.homes_are.long;
    listed = λ j d inside. listed (get_or new j d) j (slice_get-get_or new j d inside);
    banks = λ i k h below at_k at_h. so_far.homes_are.banks i k h below at_k (sets.others (injection_place i) h (λ e. never i below (sym is_place ∙ e)) at_h);
  };
  routers = λ i o q k h before on out behind at_k at_h. elim (same_place q) [
    | inl here ↦
        let one = one_output u (chip_of u.machine i) (chip_of u.machine n) o p q (live_inside u.machine (chip_of u.machine i) on.live) (live_inside u.machine (chip_of u.machine n) live.live)
        behind (sym is_place ∙ here) in
        let index : i ≡ n = same_chip u i n on live one.0 in
        sets.here q h here at_h ∙ same_Some sender k (sym at_sender ∙ (ap (λ (j : ℕ). slice_get table (router_place j)) (sym index) ∙ at_k))
    | inr elsewhere ↦ so_far.routers i o q k h (earlier i o q before behind elsewhere) on out behind at_k (sets.others q h elsewhere at_h)
  ];
}
  where
    same_place : (q : ℕ) → (place ≡ Some q) ⊎ (place ≡ Some q → ⊥)
    same_place q = grind (arith, none-some, cases_eq, same_Some)

    earlier : (i : ℕ) (o : Out) (q : ℕ) → IsBefore n (m + 1) i o → place_behind u (chip_of u.machine i) o ≡ Some q → (place ≡ Some q → ⊥) → IsBefore n m i o
    earlier i o q its_3 behind elsewhere = grind (arith, cases_eq, out_number_injective)

    never : (i : ℕ) → i < grid_size u → place_behind u (chip_of u.machine n) p ≡ Some (injection_place i) → ⊥
    never i below e =
        no_injection u (chip_of u.machine n) (chip_of u.machine i) p (live_inside u.machine (chip_of u.machine n) live.live) (chip_of-inside u.machine i below)
        (e ∙ ap (λ (k : ℕ). Some (7 * k + 6)) (sym (index_of-chip_of u.machine i)))

    listed : (h : Home) (q : ℕ) → slice_get new q ≡ Some h → IsInTable table h
    listed h q at = grind (arith, All-at (IsInTable table) homes q (sets.receivers q h at).0 so_far.homes_are.listed (sets.receivers q h at).1, same_place q)

-- all outputs of a live chip, or none of one that isn't
pub senders_live : (u : Setup) (table : List ℕ) (n : ℕ) (homes : List Home) → HaveSenders u table n 24 homes → HaveSenders u table (n + 1) 0 homes
senders_live u table n homes so_far = grind (arith, cases_eq, out_number_below)

pub senders_dead : (u : Setup) (table : List ℕ) (n : ℕ) (homes : List Home) → HaveSenders u table n 0 homes → (IsLiveIndex u n → ⊥) → HaveSenders u table (n + 1) 0 homes
senders_dead u table n homes so_far dead = record {
  homes_are = so_far.homes_are;
  routers = λ i o q k h before on out. so_far.routers i o q k h (less i o on before) on out;
}
  where
    less : (i : ℕ) (o : Out) → IsLiveIndex u i → IsBefore (n + 1) 0 i o → IsBefore n 0 i o
    less i o on its_3 = grind (arith, cases_eq)

pub homes_all : (u : Setup) (table : List ℕ) (n : ℕ) (homes : List Home) → grid_size u ≤ n → HaveSenders u table n 0 homes → AreHomesOf u table homes
homes_all u table n homes past so_far = record {
  long = so_far.homes_are.long;
  routers = λ i o q k h on out. let below = live_below u i on in so_far.routers i o q k h (inl (omega (arith, below, past))) on out;
  banks = λ i k h on. so_far.homes_are.banks i k h (live_below u i on);
  below = λ q h n at all.
      let listed = All-at (IsInTable table) homes q h so_far.homes_are.listed at in (all listed.sender_at h.sender listed.sender, all listed.receiver_at h.receiver listed.receiver);
}

pub sets_none : (sender : ℕ) (homes : List Home) → SetsSender None sender homes homes
sets_none sender homes = grind (arith, none-some)

pub sets_past : (place sender : ℕ) (homes : List Home) → length homes ≤ place → SetsSender (Some place) sender homes homes
sets_past place sender homes past = grind (arith, same_Some, slice_get_within)

pub sets_one : (place sender : ℕ) (homes : List Home) (old : Home) → slice_get homes place ≡ Some old → SetsSender (Some place) sender homes (set homes place (record old { sender = sender }))
sets_one place sender homes old stands =
    let new : Home = record old { sender = sender } in
    record {
      long = length-set homes place new;
      here = λ q h e at. was_set (λ q h. place ≡ q → h.sender ≡ sender) homes place new (λ q h other at same. absurd (other (sym same))) (λ same. refl) q h at (same_Some place q e);
      others = λ q h elsewhere at. sym (slice_get-set_other homes place q new (λ same. elsewhere (ap Some (sym same)))) ∙ at;
      receivers = was_set (λ q h. (g : Home) × (slice_get homes q ≡ Some g) × (h.receiver ≡ g.receiver)) homes place new (λ q h other at. (h, at, refl)) (old, stands, refl);
    }

-- ---- cuts

pub record CutsTo (homes : List Home) (n : ℕ) (cuts : List Cut) : Type 0 where
  pub cut : (l : ℕ) (c : Cut) → slice_get cuts l ≡ Some c → (slice_get homes c.queue ≡ Some (record { sender = c.sender; receiver = c.receiver })) × (c.sender ≢ c.receiver)
  pub all_cut : (q : ℕ) (h : Home) → q < n → slice_get homes q ≡ Some h → h.sender ≢ h.receiver → (l : ℕ) × (c : Cut) × (slice_get cuts l ≡ Some c) × (c.queue ≡ q)
  pub apart : (k l : ℕ) (a b : Cut) → slice_get cuts k ≡ Some a → slice_get cuts l ≡ Some b → a.queue ≡ b.queue → k ≡ l
  pub below : (l : ℕ) (c : Cut) → slice_get cuts l ≡ Some c → c.queue < n
  pub few : length cuts ≤ n

pub cuts_none : (homes : List Home) (cuts : List Cut) → cuts ≡ [] → CutsTo homes 0 cuts
cuts_none homes cuts none = grind (arith, none-some)

pub cuts_more : (homes : List Home) (n : ℕ) (home : Home) (cuts new : List Cut) → slice_get homes n ≡ Some home → CutsTo homes n cuts → MayCut n home cuts new → CutsTo homes (n + 1) new
cuts_more homes n home cuts new at_n so_far (inl same) = subst (CutsTo homes (n + 1)) (sym same.1) (record {
  cut = so_far.cut;
  all_cut = λ q h less at.
      next_too (λ q h. h.sender ≢ h.receiver → (l : ℕ) × (c : Cut) × (slice_get cuts l ≡ Some c) × (c.queue ≡ q)) homes n home at_n so_far.all_cut (λ two. absurd (two same.0)) q h less at;
  apart = so_far.apart;
  below = λ l c at. let was = so_far.below l c at in omega (arith, was);
  few = omega (arith, so_far.few);
})
cuts_more homes n home cuts new at_n so_far (inr other) =
    let last : Cut = record { queue = n; sender = home.sender; receiver = home.receiver } in
    let is = other.1 in
    record {
      cut = pushed (λ l c. (slice_get homes c.queue ≡ Some (record { sender = c.sender; receiver = c.receiver })) × (c.sender ≢ c.receiver)) cuts last new is so_far.cut (at_n, other.0);
      all_cut = λ q h less at.
          next_too (λ q h. h.sender ≢ h.receiver → (l : ℕ) × (c : Cut) × (slice_get new l ≡ Some c) × (c.queue ≡ q)) homes n home at_n
          (λ q h less at two. let was = so_far.all_cut q h less at two in (was.0, was.1, ap (λ l. slice_get l was.0) is ∙ slice_get-append_left cuts (last ∷ []) was.0 was.1 was.2, was.3))
          (λ two. (length cuts, last, ap (λ l. slice_get l (length cuts)) is ∙ slice_get-pushed cuts last (length cuts) refl, refl)) q h less at;
      apart = λ k l a b at_k at_l.
          pushed (λ k a. a.queue ≡ b.queue → k ≡ l) cuts last new is
          (λ k a at. pushed (λ l b. a.queue ≡ b.queue → k ≡ l) cuts last new is (λ l b. so_far.apart k l a b at) (λ same. absurd (omega (arith, so_far.below k a at, same))) l b at_l)
          (pushed (λ l b. n ≡ b.queue → length cuts ≡ l) cuts last new is (λ l b at same. absurd (omega (arith, so_far.below l b at, same))) (λ same. refl) l b at_l) k a at_k;
      below = pushed (λ l c. c.queue < n + 1) cuts last new is (λ l c at. let was = so_far.below l c at in omega (arith, was)) (omega arith);
      few = omega (arith, ap length is, length_push cuts last, so_far.few);
    }

pub cuts_all : (homes : List Home) (n : ℕ) (cuts : List Cut) → n ≡ length homes → length homes < 2 ^ 32 → CutsTo homes n cuts → AreCutsOf homes cuts
cuts_all homes n cuts past small so_far = grind (arith, slice_get_within)

pub ruleset cut_steps = (cuts_none, cuts_more, cuts_all, slice_get-get_or)
