-- Which queue is behind which output: each queue has at most one output that leads to it. And whether two names are of one queue.
use Rattle.mesh_round.proofs.Common.{All, All-contains, Bool, Chip, Contains, Exit, ExitLeads, IsBranch, IsLiveLink, List, NetPlan, None, Out, Queue, Setup, Spot, ap, arith, behind, behind_link, core}
use Rattle.mesh_round.proofs.Common.{core_is_somewhere, eqb-true, exit_leads, false, far_of, inl, input, input_is_somewhere, inr, leads_to, leaves_parts, leaves_there, nat_eq_same, none-some, nowhere}
use Rattle.mesh_round.proofs.Common.{refl, slice_get, sym, true, vertex_behind, vertex_behind_there, ℕ, ◌==◌, ◌∙◌, ◌≡◌, ◌≢◌}
pub use Rattle.mesh_run.proofs.Ends.{Leads, by_link, to_vertex, to_none, leads, one_end, one_link, one_port}

-- whether two names are of one queue
abbrev pub behind_eq : Queue → Queue → Bool
behind_eq (input i) (input j) = i == j
behind_eq (core v) (core w) = v == w
behind_eq nowhere nowhere = true
behind_eq (input i) (core v) = false
behind_eq (input i) nowhere = false
behind_eq (core v) (input i) = false
behind_eq (core v) nowhere = false
behind_eq nowhere (input i) = false
behind_eq nowhere (core v) = false

pub behind_eq_same : (q : Queue) → behind_eq q q ≡ true
behind_eq_same q = grind (arith, nat_eq_same)

pub behind_eq_true : (q r : Queue) → behind_eq q r ≡ true → q ≡ r
behind_eq_true q r same = grind (arith, eqb-true)

-- An output on a branch of a net that stands leads somewhere.
pub branch_leads_on : (u : Setup) (net : NetPlan) (target : Spot) (branch : List Exit) (hop : ℕ) (c : Chip) (o : Out) → All (λ e. IsLiveLink u.machine e.chip e.dir) net.tree.edges →
    All (Contains u.spots) net.targets → Contains net.targets target →
    IsBranch u.machine net.tree.root net.tree.edges target branch → leaves_there c o (slice_get branch hop) ≡ true → behind u c o ≢ nowhere
branch_leads_on u net target branch hop c o live targets is_target is on gone = by_end (leads u c o)
  where
    by_exit : vertex_behind u.spots c o ≡ None → ExitLeads u.machine net.tree.edges target branch hop (record { chip = c; out = o }) → ⊥
    by_exit without (inl (d, out, in_tree, (y, far, next))) = grind (arith, All-contains, input_is_somewhere)
    by_exit without (inr (chip, out, last)) =
        let there = vertex_behind_there u.spots c o target (All-contains (Contains u.spots) net.targets target targets is_target) (leads_to c o target chip out) in
        none-some there.0 (sym without ∙ there.1)

    by_end : Leads u c o → ⊥
    by_end (by_link d e out link far at) = input_is_somewhere (sym at ∙ gone)
    by_end (to_vertex v dead at is_core) = core_is_somewhere (sym is_core ∙ gone)
    by_end (to_none without at) = by_exit without (exit_leads u.machine net.tree.edges target net.tree.root branch hop (record { chip = c; out = o }) is (leaves_parts branch hop c o on))
