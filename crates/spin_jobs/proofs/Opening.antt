-- The opened mesh of a job: what it asks of the plan, and what it keeps.
use Rattle.spin_jobs.proofs.Common.{All-at, All-replicate, AllZip-at_first, AreOfNets, Block, Description, Err, Graph, HasKeys, HasNoHand, IfOk, IsKeyOf, IsMesh, IsPacketOf, IsPlanOf, IsPlanOfJob}
use Rattle.spin_jobs.proofs.Common.{IsRunOf, Job, List, MayGoOn, MeetsJobLedger, Net, NetPlan, None, NothingWaits, Ok, Option, Packet, Plan, Result, RunPart, Setup, Some, State, [], ap, arith}
use Rattle.spin_jobs.proofs.Common.{blocks_of, get_or_from_slice_get, map, opened_meets_ledger, opened_mesh, opened_of, option_map, refl, rules, setup_of, slice_get, slice_get-get_or, slice_get-map}
use Rattle.spin_jobs.proofs.Common.{slice_index_or, subst, sym, ℕ, ◌+◌, ◌<◌, ◌∙◌, ◌≡◌}
use Rattle.app_graph.specs.RunPart.{key_count_of}

-- how many keys a net has
key_count : (nets : List Net) (i : ℕ) (net : Net) → slice_get nets i ≡ Some net → key_count_of nets i ≡ net.keys
unfolding key_count_of
key_count nets i net there = get_or_from_slice_get (map (λ (n : Net). n.keys) nets) _ _ _ (slice_get-map (λ (n : Net). n.keys) nets i ∙ ap (option_map (λ (n : Net). n.keys)) there)

-- the same block has the same keys
key_of_same : (index : ℕ) (b d : Block) → d ≡ b → IsKeyOf b (b.key + index) → IsKeyOf d (d.key + index)
key_of_same index b d same key = subst (λ (x : Block). IsKeyOf x (x.key + index)) (sym same) key

with_block : (nets : List NetPlan) (n : ℕ) (b : Block) (o : Option NetPlan) → slice_get nets n ≡ o → option_map (λ (net : NetPlan). net.block) o ≡ Some b →
    (net : NetPlan) × (slice_get nets n ≡ Some net) × (net.block ≡ b)
with_block nets n b (Some net) here e = (net, here, let same : net.block ≡ b = cc in same)
with_block nets n b None here e = cc

nothing : Net
nothing = record { name = []; source = 0; targets = []; keys = 0; fixed = None }

-- each packet of a run part has a key of its net's plan
pub are_of_nets : (m : Description) (graph : Graph) (target : ℕ) (run : RunPart) (plan : Plan) → IsRunOf graph run → IsPlanOf m graph target plan → AreOfNets plan.nets run.packets
are_of_nets m graph target run plan is_run planned i p at =
    let asked : IsPacketOf graph.nets p = All-at (IsPacketOf graph.nets) run.packets i p is_run.packets at in
    let net : Net = slice_index_or graph.nets p.net nothing in
    let there : slice_get graph.nets p.net ≡ Some net = slice_get-get_or graph.nets p.net nothing asked.0 in
    let below : p.index < net.keys = subst (λ k. p.index < k) (key_count graph.nets p.net net there) asked.1 in
    let block = AllZip-at_first HasKeys graph.nets (blocks_of plan.nets) planned.routing.enough p.net net there in
    let of = with_block plan.nets p.net block.0 (slice_get plan.nets p.net) refl (sym (slice_get-map (λ (n : NetPlan). n.block) plan.nets p.net) ∙ block.1) in
    let its = block.2 p.index below in
    let key : IsKeyOf block.0 (block.0.key + p.index) = record { fits = its.0; matches = its.1 } in
    (of.0, of.1, key_of_same p.index block.0 of.0.block of.2 key)

-- nothing waits in an opened mesh
pub opened_quiet : (u : Setup) (nets : List NetPlan) (packets : List Packet) → NothingWaits (opened_mesh u nets packets)
opened_quiet u nets packets = search (rules, All-replicate)

-- so it may go by rounds, by the law that a mesh in which nothing waits may
pub opened_ready : {E : Type 0} → ((s : State) → NothingWaits s → HasNoHand s) → (u : Setup) (nets : List NetPlan) (packets : List Packet)
    (mesh : Result State E) → IfOk mesh (λ m. m ≡ opened_mesh u nets packets) → IfOk mesh IsMesh → IfOk mesh MayGoOn
opened_ready no_hand u nets packets (Ok m) is is_mesh = grind (arith, opened_quiet u nets packets)
opened_ready no_hand u nets packets (Err e) is is_mesh = is

-- the packets of a planned job are of its nets
pub job_of_nets : (job : Job) (plan : Plan) → IsRunOf job.graph job.run → IsPlanOfJob job plan → AreOfNets plan.nets job.run.packets
job_of_nets job plan run planned = are_of_nets job.machine job.graph job.run.target job.run plan run planned

-- the opened mesh of a planned job keeps the job's ledger
pub opened_keeps : (job : Job) (plan : Plan) → IsRunOf job.graph job.run → IsPlanOfJob job plan → MeetsJobLedger (opened_of job plan) plan.nets job.run.packets
opened_keeps job plan run planned = opened_meets_ledger (setup_of job plan) plan.nets job.run.packets planned.routing.stand (job_of_nets job plan run planned)
