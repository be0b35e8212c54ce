-- An application's rows and packets on a mesh.
use Rattle.app_loads.proofs.Common.{chip_of, chip_of-inside, has, index_of-chip_of, All, All-at, All-contains, All-each, All-head, All-push, All-set, AllZip-at_second, AppNet, AreCopied, AreOriginals}
use Rattle.app_loads.proofs.Common.{AreSent, AreWritten, AtEach, Block, CanCopy, CanSend, CanSettle, Chip, Contains, Contains-at, Delivery, Description, DumpRec, Edge, Entry, FitsTable, HaveRooms}
use Rattle.app_loads.proofs.Common.{IsAppNet, IsInside, IsMesh, IsPacketOfApp, IsPacketOn, IsPermutation-refl, IsPlainTable, IsRangeFor, IsRangeWithin, IsSendingFrom, IsSettled, IsTreeChip, List}
use Rattle.app_loads.proofs.Common.{LoadedApp, McCopy, Option, Original, Packet, Range, Row, Rows, Setup, Some, Spot, State, Table, [], among_any, among_contains, any_among, ap, arith, chip_count}
use Rattle.app_loads.proofs.Common.{chip_eq, chip_eq-from_same, chip_eq_true, chip_of-index_of, claims_of, contains_among, count_by, count_by-cons, drop, end_of, entry_of, false, false_from_ne_true}
use Rattle.app_loads.proofs.Common.{has_chip, in_from, index_below, index_of, inl, inr, length, length-map, length-set, length_permutation, list_any, map, nat_tests, net_with, nets_of, nets_with}
use Rattle.app_loads.proofs.Common.{option_map_or, or_cases, or_left, or_right, place_of, refl, region_size, row_entry, row_of, slice_get, slice_get_there, slice_get_within, subst, suc, sym, table_at}
use Rattle.app_loads.proofs.Common.{take, tree_cases, tree_end, true, usable_parts, vertex_there, zero, ℕ, ◌*◌, ◌++◌, ◌+◌, ◌-◌, ◌∙◌, ◌∷◌, ◌≡◌, ◌≤◌}
use Rattle.app_loads.proofs.{Copying.part_is, AppNets.member_at, AppNets.packet_key, AppNets.spot_inside, AppNets.usable_spot, AppNets.usable_there, ClaimCases.row_size, LeavingLists.one_if}
use Rattle.app_loads.proofs.{Claiming.leads_to, Resting.nets_with_at}

-- ---- rows of a chip

pub has_chip-true : (m : Description) (c : Chip) (net : AppNet) → IsTreeChip m net.tree.root net.tree.edges c → has_chip m c net ≡ true
has_chip-true m c net on = elim (tree_cases m net.tree.root net.tree.edges c on) [
  | inl at ↦ or_left (chip_eq c net.tree.root) (list_any (λ (e : Edge). option_map_or (chip_eq c) (end_of m e) false) net.tree.edges) (chip_eq-from_same c net.tree.root at)
  | inr into ↦ grind (arith, contains_among into.0 net.tree.edges into.1, chip_eq-from_same c c refl, or_right, among_any)
]

pub has_chip-tree : (m : Description) (c : Chip) (net : AppNet) → has_chip m c net ≡ true → IsTreeChip m net.tree.root net.tree.edges c
has_chip-tree m c net e = grind (arith, or_cases, chip_eq_true, any_among, tree_end, among_contains, leads_to)

originals_count : (m : Description) (c : Chip) (nets : List AppNet) (blocks : List Block) (os : List Original) → length blocks ≡ length nets →
    AreOriginals m c (nets_with nets blocks) os → length os ≡ count_by (has_chip m c) nets
originals_count m c [] [] os long are = ap length are
originals_count m c (n ∷ ns) (b ∷ bs) os long (inl on) =
    let rest = originals_count m c ns bs on.3 (omega (arith, long)) on.5 in
    let all : length os ≡ suc (length on.3) = ap length on.4 in
    let here : one_if (has_chip m c n) ≡ 1 = ap one_if (has_chip-true m c n on.0) in
    omega (arith, rest, all, count_by-cons (has_chip m c) n ns, here)
originals_count m c (n ∷ ns) (b ∷ bs) os long (inr off) =
    grind (arith, originals_count m c ns bs os (omega (arith, long)) off.1, count_by-cons (has_chip m c) n ns, one_if, false_from_ne_true, has_chip-tree)
originals_count m c nets blocks os long are = absurd (omega (arith, long))

pub plain_count : (m : Description) (c : Chip) (nets : List AppNet) (blocks : List Block) (rows : List Row) → length blocks ≡ length nets →
    IsPlainTable m (nets_with nets blocks) c rows → length rows ≡ count_by (has_chip m c) nets
plain_count m c nets blocks rows long plain =
    grind (arith, length_permutation (map row_of plain.originals) rows plain.one_row_each, originals_count m c nets blocks plain.originals long plain.originals_are, length-map plain.originals row_of)

pub rows_size : (m : Description) (i : ℕ) → region_size m (1 + (chip_count m + i)) ≡ 1024
rows_size m i = grind (arith, nat_tests)

module _ (s : State) (app : LoadedApp) (can : CanSettle s app) where
  abbrev its_machine : Description
  its_machine = s.setup.machine

  -- a range of a chip's entries is as long as nets have the chip
  range_size : (range : Range) → Contains app.ranges range → (c : Chip) → IsInside its_machine c → range.region ≡ place_of its_machine (Rows c) →
      range.size ≡ count_by (has_chip its_machine c) app.plan.nets
  range_size range has c inside region =
      let claimed = AllZip-at_second (IsRangeFor its_machine) (claims_of its_machine app.plan) app.ranges can.loaded.ranges has.0 range (member_at app.ranges range has) in
      let of_region : place_of its_machine claimed.0.region ≡ 1 + (chip_count its_machine + index_of its_machine c) = sym claimed.2.0 ∙ region in
      claimed.2.1
      ∙ (row_size its_machine app.plan can.loaded.plan claimed.0 (Contains-at (claims_of its_machine app.plan) has.0 claimed.0 claimed.1)
      (index_of its_machine c) (index_below its_machine c inside) of_region
      ∙ ap (λ (d : Chip). count_by (has_chip its_machine d) app.plan.nets) (chip_of-index_of its_machine c inside))

  module _ (none : app.plan.nets ≡ []) where
    no_packet : (packets : List Packet) → All (IsPacketOfApp app.plan.nets) packets → length packets ≡ 0
    no_packet [] all = refl
    no_packet (p ∷ packets) all =
        let of_net = All-head (IsPacketOfApp app.plan.nets) p packets all in
        absurd (omega (arith, slice_get_within app.plan.nets p.net of_net.0 of_net.1, ap length none))

    -- an application without nets leaves a mesh as it is
    pub settled_bare : IsSettled app s s
    settled_bare = record {
      mesh = refl;
      sent = subst (λ n. AreSent s.setup.spots app n s.unsent s.unsent) (sym (no_packet app.plan.packets can.loaded.plan.packets)) refl;
      written = record {
        all = refl;
        long = can.long;
        rows = λ range has c inside region.
            let size = range_size range has c inside region ∙ ap (λ (nets : List AppNet). count_by (has_chip its_machine c) nets) none in
            record {
              rows = [];
              plain = grind (arith, IsPermutation-refl);
              entries = ap (λ n. take n (drop range.place (table_at its_machine s.setup.tables c))) size;
            };
        others = λ c k inside free. refl;
      };
    }

-- the rows of an application, chip by chip
abbrev pub ArePlain : Description → LoadedApp → List Table → Type 0
ArePlain m app rows = (length rows ≡ m.width * m.height) × AtEach m rows (IsPlainTable m (nets_of app))

module _ (s : State) (app : LoadedApp) (can : CanSettle s app) (mesh : IsMesh s) where
  abbrev m : Description
  m = s.setup.machine

  sending : (net : AppNet) → Contains app.plan.nets net → IsSendingFrom s.setup net
  sending net has =
      let valid = All-contains (IsAppNet m app.plan.spots) app.plan.nets net can.loaded.plan.nets has in
      let usable = usable_spot m app can.loaded net.source valid.source in
      let there = vertex_there s.setup.spots net.source (subst (λ (l : List Spot). Contains l net.source) (sym can.vertices) (usable_there m net.source usable)) in
      record {
        inside = spot_inside m app can.loaded net.source valid.source;
        core = let most = (usable_parts m net.source usable).2 in omega (arith, most);
        vertex = there.0;
        is = there.1;
      }

  packet_on : (p : Packet) → Contains app.plan.packets p → IsPacketOn app.blocks (length app.plan.nets) p
  packet_on p has =
      let of_net = All-contains (IsPacketOfApp app.plan.nets) app.plan.packets p can.loaded.plan.packets has in
      let below = slice_get_within app.plan.nets p.net of_net.0 of_net.1 in
      let block = slice_get_there app.blocks p.net (let l = can.loaded.blocks.all in omega (arith, below, l)) in
      let key = packet_key m app can.loaded p of_net (net_with of_net.0 block.0) (nets_with_at app.plan.nets app.blocks p.net of_net.0 block.0 of_net.1 block.1) in
      record { net = below; block = block.0; is = block.1; key = key.fits }

  pub can_send : (q : List (List McCopy)) → q ≡ s.unsent → CanSend s.setup app q
  can_send q is = grind (arith, All-each (IsSendingFrom s.setup) app.plan.nets sending, All-each (IsPacketOn app.blocks (length app.plan.nets)) app.plan.packets packet_on)

  module _ {rows lent : List Table} {ranges : List Range} (plain : ArePlain m app rows) (is_rows : lent ≡ rows) (is_ranges : ranges ≡ app.ranges) where
    fit_there : (range : Range) → Contains app.ranges range → FitsTable m rows range
    fit_there range has j t region at =
        let c : Chip = chip_of m j in
        let is : index_of m c ≡ j = index_of-chip_of m j in
        let inside = chip_of-inside m j (omega (arith, slice_get_within rows j t at, plain.0)) in
        let size = range_size s app can range has c inside (region ∙ ap (λ k. 1 + (chip_count m + k)) (sym is)) in
        let many = plain_count m c app.plan.nets app.blocks t.rows can.loaded.blocks.all (plain.1 c t inside (ap (slice_get rows) is ∙ at)) in
        let within = (All-contains (IsRangeWithin m (1 + (chip_count m + chip_count m))) app.ranges range can.loaded.within has).within in
        let ends : range.place + range.size ≤ 1024 = subst (λ r. range.place + range.size ≤ r) (ap (region_size m) region ∙ rows_size m j) within in
        (omega (arith, size, many, ends), size ∙ sym many)

    pub can_copy : {rooms : List ℕ} → HaveRooms m ranges rooms → CanCopy m s.setup.tables lent ranges rooms
    can_copy {rooms} room = subst (λ (l : List Table). CanCopy m s.setup.tables l ranges rooms) (sym is_rows)
        (subst (λ (l : List Range). CanCopy m s.setup.tables rows l rooms) (sym is_ranges) (record {
          tables_long = mesh.table_list;
          rows_long = plain.0;
          each_long = can.long;
          apart = can.apart;
          there = λ range has. (All-contains (IsRangeWithin m (1 + (chip_count m + chip_count m))) app.ranges range can.loaded.within has).there;
          fit = fit_there;
          room = subst (λ (l : List Range). HaveRooms m l rooms) is_ranges room;
        }))

    pub written : (new : List (List Entry)) → AreCopied m lent ranges s.setup.tables new → AreWritten m app s.setup.tables new
    written new copied =
        let c' = subst (λ (l : List Table). AreCopied m l app.ranges s.setup.tables new) is_rows (subst (λ (l : List Range). AreCopied m lent l s.setup.tables new) is_ranges copied) in
        record {
          all = c'.all;
          long = c'.long;
          rows = λ range has c inside region.
              let t = slice_get_there rows (index_of m c) (let w = index_below m c inside in let l = plain.0 in omega (arith, w, l)) in
              record { rows = t.0.rows; plain = plain.1 c t.0 inside t.1; entries = entries_of c' range has c inside region t.0 t.1 };
          others = c'.others;
        }
      where
        entries_of : AreCopied m rows app.ranges s.setup.tables new → (range : Range) → Contains app.ranges range → (c : Chip) → IsInside m c → range.region ≡ place_of m (Rows c) →
            (t : Table) → slice_get rows (index_of m c) ≡ Some t → take range.size (drop range.place (table_at m new c)) ≡ map entry_of t.rows
        entries_of c' range has c inside region t at =
            let fits = fit_there range has (index_of m c) t region at in
            let many = length-map t.rows entry_of in
            let size : range.size ≡ length (map entry_of t.rows) = omega (arith, fits, many) in
            ap (λ n. take n (drop range.place (table_at m new c))) size
            ∙ part_is (table_at m new c) (map entry_of t.rows) range.place (let l = c'.long c inside in omega (arith, fits, many, l)) (λ k j e below.
            let place : k - range.place ≡ j = omega (arith, e) in
            c'.filled range has c k inside region (omega (arith, e, below, many, fits)) (in_from range.place range.size k (omega (arith, e)) (omega (arith, e, below, size)))
            ∙ (ap (λ (o : Option Table). row_entry (option_map_or (λ (x : Table). x.rows) o []) range.place k) at ∙ ap (slice_get (map entry_of t.rows)) place))

-- ---- the mesh

sent_long : (spots : List Spot) (app : LoadedApp) (n : ℕ) (before after : List (List McCopy)) → AreSent spots app n before after → length after ≡ length before
sent_long spots app zero before after sent = ap length sent
sent_long spots app (suc n) before after sent = grind (arith, sent_long spots app n before sent.0 sent.2, length-set)

sent_at_start : (spots : List Spot) (app : LoadedApp) (n : ℕ) (before after : List (List McCopy)) → All (λ q. All (λ (k : McCopy). k.hop ≡ 0) q) before →
    AreSent spots app n before after → All (λ q. All (λ (k : McCopy). k.hop ≡ 0) q) after
sent_at_start spots app zero before after start sent = subst (All (λ q. All (λ (k : McCopy). k.hop ≡ 0) q)) (sym sent) start
sent_at_start spots app (suc n) before after start sent =
    let one = sent.4 in
    let rest = sent_at_start spots app n before sent.0 start sent.2 in
    subst (All (λ q. All (λ (k : McCopy). k.hop ≡ 0) q)) (sym one.is)
    (All-set (λ q. All (λ (k : McCopy). k.hop ≡ 0) q) sent.0 one.vertex (one.queue ++ _ ∷ [])
    (All-push (λ (k : McCopy). k.hop ≡ 0) one.queue _ (All-at (λ q. All (λ (k : McCopy). k.hop ≡ 0) q) sent.0 one.vertex one.queue rest one.at) refl) rest)

-- a mesh with other tables, unsent copies, deliveries and records
pub changed_mesh : (s : State) (tables : List (List Entry)) (q : List (List McCopy)) (delivered : List Delivery) (dumped : List DumpRec) → IsMesh s → length tables ≡ length s.setup.tables →
    length q ≡ length s.unsent → All (λ l. All (λ (k : McCopy). k.hop ≡ 0) l) q → IsMesh (record s { setup = record s.setup { tables = tables }; unsent = q; delivered = delivered; dumped = dumped })
changed_mesh s tables q delivered dumped mesh long as_long at_start = grind arith

pub settled_mesh : (s : State) (app : LoadedApp) (n : ℕ) (q : List (List McCopy)) (tables : List (List Entry)) → IsMesh s → AreSent s.setup.spots app n s.unsent q →
    length tables ≡ length s.setup.tables → IsMesh (record s { setup = record s.setup { tables = tables }; unsent = q })
settled_mesh s app n q tables mesh sent long =
    changed_mesh s tables q s.delivered s.dumped mesh long (sent_long s.setup.spots app n s.unsent q sent) (sent_at_start s.setup.spots app n s.unsent q mesh.unsent_at_start sent)

pub with_setup : (s : State) (u : Setup) (q : List (List McCopy)) → u ≡ record s.setup { tables = u.tables } →
    record s { setup = record s.setup { tables = u.tables }; unsent = q } ≡ record s { setup = u; unsent = q }
with_setup s u q is = ap (λ (v : Setup). record s { setup = v; unsent = q }) (sym is)

-- ---- the same from the mesh that was taken apart

module _ {s t : State} {app : LoadedApp} (same : s ≡ t) (can : CanSettle t app) (mesh : IsMesh t) where
  own : CanSettle s app
  own = subst (λ (x : State). CanSettle x app) (sym same) can

  whole : IsMesh s
  whole = subst IsMesh (sym same) mesh

  here : (rows : List Table) → ArePlain t.setup.machine app rows → ArePlain s.setup.machine app rows
  here rows = subst (λ (x : State). ArePlain x.setup.machine app rows) (sym same)

  pub parted_send : {q : List (List McCopy)} → q ≡ s.unsent → CanSend s.setup app q
  parted_send {q} = can_send s app own whole q

  pub parted_mesh : {given q put : List (List McCopy)} → given ≡ s.unsent → q ≡ given → put ≡ q → IsMesh (record s { unsent = put })
  parted_mesh is kept put_is = subst (λ (l : List (List McCopy)). IsMesh (record s { unsent = l })) (sym (put_is ∙ (kept ∙ is))) whole

  pub parted_copy : {rows lent : List Table} {ranges : List Range} {rooms : List ℕ} → ArePlain t.setup.machine app rows → lent ≡ rows → ranges ≡ app.ranges →
      HaveRooms s.setup.machine ranges rooms → CanCopy s.setup.machine s.setup.tables lent ranges rooms
  parted_copy {rows} plain is_rows is_ranges room = can_copy s app own whole (here rows plain) is_rows is_ranges room

  -- packets were sent, and the tables are others
  module _ {given q put : List (List McCopy)} {u : Setup} (is : given ≡ s.unsent) (put_is : put ≡ q) (sent : AreSent s.setup.spots app (length app.plan.packets) given q)
      (setup : u ≡ record s.setup { tables = u.tables }) where
    sent_from : AreSent s.setup.spots app (length app.plan.packets) s.unsent q
    sent_from = subst (λ (l : List (List McCopy)). AreSent s.setup.spots app (length app.plan.packets) l q) is sent

    pub parted_whole : length u.tables ≡ length s.setup.tables → IsMesh (record s { setup = u; unsent = put })
    parted_whole long =
        subst (λ (l : List (List McCopy)). IsMesh (record s { setup = u; unsent = l })) (sym put_is)
        (subst IsMesh (with_setup s u q setup) (settled_mesh s app (length app.plan.packets) q u.tables whole sent_from long))

    pub parted_settled : {rows lent : List Table} {ranges : List Range} {new : State} → new ≡ record s { setup = u; unsent = put } → ArePlain t.setup.machine app rows → lent ≡ rows →
        ranges ≡ app.ranges → AreCopied s.setup.machine lent ranges s.setup.tables u.tables → IsSettled app t new
    parted_settled {rows} {new = new} new_is plain is_rows is_ranges copied =
        subst (λ (x : State). IsSettled app x new) same
        (subst (IsSettled app s) (sym (new_is ∙ ap (λ (l : List (List McCopy)). record s { setup = u; unsent = l }) put_is))
        (record { mesh = sym (with_setup s u q setup); sent = sent_from; written = written s app own whole (here rows plain) is_rows is_ranges u.tables copied }))
