-- A request has an answer or one reason why it has none.
use Rattle.std.proofs.Common.{◌≡◌, ℕ, List, [], ◌∷◌, length, nat_lt, Bool, true, false, if◌then◌else◌, codes, arith, Option, Some, None, Err, sym, ap, ◌∙◌, subst}
use Rattle.spin_base.proofs.Places.{one_item_at}
use Rattle.app_graph.specs.declared.graphs.{Net.Net, Vertex.Vertex}
use Rattle.place_fit.proofs.Determined as places
use Rattle.key_alloc.proofs.Determined as blocks
use Rattle.job_requests.specs.{declared.requests.Request.Request, Requests.request_faults, Requests.request_value}
use Rattle.spin_checks.specs.{Answers.IsAnswer, Answers.NamesMisrouted, Answers.RoutesRight, Answers.no_room, Answers.keys_out, Findings.right_line, Plans.HasKeptRows, Plans.trees_of}
use Rattle.par_compile.specs.{Compiled.IsPlanOf, declared.compiling.Plan.Plan}
use Rattle.table_load.specs.{Images.Spells, declared.tables.Image.Image}
use Rattle.machine_desc.specs.declared.trees.Edge.{Edge}
use Rattle.run_report.specs.{ReportText.line, Refusals.status_of, declared.causes.Refusal.Refusal}
use Rattle.spin_input.specs.{Inputs.Reading, Inputs.read_fault, Inputs.too_long, Inputs.not_read_as, Inputs.no_memory, Kinds.input_by, Kinds.input_in, Requests.request_from, Requests.request_in}
use Rattle.spin_input.specs.Requests.{request_of}
use Rattle.job_text.specs.{declared.faults.JobFault.JobFault, Json.json_of}
use Rattle.serde_json.specs.Data.{Data}
use Rattle.run_report.specs.declared.causes.Refusal.TheVariants as refusals
use Rattle.spin_top.specs.{Causes.HasNoNets, Ends.HasNets, Inputs.IsRefusedFor, Inputs.no_value, Inputs.no_answer, Made.IsChecked}

-- where all vertices have places and all nets have keys, no refusal is due
pub with_nets : (request : Request) (r : Refusal) → HasNets request → HasNoNets request r → ⊥
with_nets request r has due = elim due [
  | no_room i vertex none at is ↦ places.not_both request.job.machine request.job.graph.vertices has.0.0 has.0.1 i has.0.2 none
  | keys_out spots memory placed i net none at is ↦ blocks.not_both request.job.graph.nets has.1.0 i has.1.1 none
]

-- nor where there is an answer
pub checked_has_nets : (request : Request) (text : List ℕ) (r : Refusal) → IsChecked request text → HasNoNets request r → ⊥
checked_has_nets request text r checked =
    let nets = checked.answer.are in with_nets request r ((nets.spots, nets.memory, nets.placed), (nets.blocks, nets.keyed))

pub one_due : (request : Request) (r s : Refusal) → HasNoNets request r → HasNoNets request s → r ≡ s
one_due request r s a b = elim a [
  | no_room i vertex none at is ↦ elim b [
    | no_room j other none' at' is' ↦
        let same : vertex ≡ other = one_item_at request.job.graph.vertices i j vertex other (places.one_vertex request.job.machine request.job.graph.vertices i j none none') at at' in
        is ∙ (ap (λ (v : Vertex). refusals.NoRoom v.name) same ∙ sym is')
    | keys_out spots memory placed j net none' at' is' ↦ absurd (places.not_both request.job.machine request.job.graph.vertices spots memory i placed none)
  ]
  | keys_out spots memory placed i net none at is ↦ elim b [
    | no_room j other none' at' is' ↦ absurd (places.not_both request.job.machine request.job.graph.vertices spots memory j placed none')
    | keys_out spots' memory' placed' j other none' at' is' ↦
        let same : net ≡ other = one_item_at request.job.graph.nets i j net other (blocks.one_net request.job.graph.nets i j none none') at at' in
        is ∙ (ap (λ (n : Net). refusals.KeysOut n.name) same ∙ sym is')
  ]
]

-- what is answered to the trees and the bytes of a request is the answer to it
pub checked_of : (request : Request) (trees : List (List Edge)) (image text : List ℕ) → trees ≡ request.trees → image ≡ request.image →
    IsAnswer request.job.machine request.job.graph trees image text →
    ((other : List ℕ) → IsAnswer request.job.machine request.job.graph trees image other → other ≡ text) →
    (text ≡ right_line → RoutesRight request.job.machine request.job.graph trees image) →
    ((words : List (List ℕ)) → text ≡ line (codes "wrong" ∷ words) → NamesMisrouted request.job.machine request.job.graph trees image text) →
    ((target : ℕ) (plan : Plan) (v : Image) → IsPlanOf request.job.machine request.job.graph target plan → HasKeptRows request.job.machine plan.tables v →
    trees ≡ trees_of plan.nets → Spells v image → text ≡ right_line) → IsChecked request text
checked_of request trees image text same_trees same_image answer only right wrong made =
    let m = request.job.machine in
    let graph = request.job.graph in
    record {
      answer = subst (λ ts. IsAnswer m graph ts request.image text) same_trees (subst (λ bs. IsAnswer m graph trees bs text) same_image answer);
      only = λ other is. only other (subst (λ ts. IsAnswer m graph ts image other) (sym same_trees) (subst (λ bs. IsAnswer m graph request.trees bs other) (sym same_image) is));
      right = λ says. subst (λ ts. RoutesRight m graph ts request.image) same_trees (subst (RoutesRight m graph trees) same_image (right says));
      wrong = λ words says. subst (λ ts. NamesMisrouted m graph ts request.image text) same_trees (subst (λ bs. NamesMisrouted m graph trees bs text) same_image (wrong words says));
      made = λ target plan v is kept trees_are spells. made target plan v is kept (same_trees ∙ trees_are) (subst (Spells v) (sym same_image) spells);
    }

-- ---- statuses that do not come

-- a number that is neither 7 nor 8
abbrev pub IsOther : ℕ → Type 0
IsOther n = (n ≡ 7 → ⊥) × (n ≡ 8 → ⊥)

two : IsOther 2
two = (λ e. absurd (omega (arith, e)), λ e. absurd (omega (arith, e)))

three : IsOther 3
three = (λ e. absurd (omega (arith, e)), λ e. absurd (omega (arith, e)))

four : IsOther 4
four = (λ e. absurd (omega (arith, e)), λ e. absurd (omega (arith, e)))

five : IsOther 5
five = (λ e. absurd (omega (arith, e)), λ e. absurd (omega (arith, e)))

six : IsOther 6
six = (λ e. absurd (omega (arith, e)), λ e. absurd (omega (arith, e)))

nine : IsOther 9
nine = (λ e. absurd (omega (arith, e)), λ e. absurd (omega (arith, e)))

pub zero_other : IsOther 0
zero_other = (λ e. absurd (omega (arith, e)), λ e. absurd (omega (arith, e)))

pub fault_other : IsOther 3
fault_other = three

-- bytes are refused by status 4
by_other : {A : Type 0} (fs : List JobFault) (input : A) (r : Refusal) → input_by fs input ≡ Err r → IsOther (status_of r)
by_other [] input r is = cc
by_other (f ∷ fs) input r is = let same : r ≡ refusals.Job f = cc in subst (λ x. IsOther (status_of x)) (sym same) four

from_other : (o : Option Data) (r : Refusal) → request_from o ≡ Err r → IsOther (status_of r)
unfolding request_of
from_other None r is = let same : r ≡ refusals.NotJson = cc in subst (λ x. IsOther (status_of x)) (sym same) four
from_other (Some d) r is = by_other (request_faults d) (request_value d) r is

bytes_other : (bytes : List ℕ) (r : Refusal) → request_in bytes ≡ Err r → IsOther (status_of r)
unfolding input_in
bytes_other bytes r is = by_length (nat_lt 16777216 (length bytes)) is
  where
    by_length : (long : Bool) → (if long then Err refusals.TooLong else request_from (json_of bytes)) ≡ Err r → IsOther (status_of r)
    by_length true is = let same : r ≡ refusals.TooLong = cc in subst (λ x. IsOther (status_of x)) (sym same) four
    by_length false is = from_other (json_of bytes) r is

called : (r s : Refusal) → r ≡ s → IsOther (status_of s) → IsOther (status_of r)
called r s same other = subst (λ x. IsOther (status_of x)) (sym same) other

-- a request that has no answer is refused by no status 7 or 8
pub refused_other : (reading : Reading) (r : Refusal) → IsRefusedFor request_in HasNoNets reading r → IsOther (status_of r)
refused_other reading r refused = elim refused [
  | no_value none ↦ elim none [
    | read_fault part rose is ↦ called r refusals.ReadFault is two
    | too_long long quiet is ↦ called r refusals.TooLong is four
    | not_read_as bytes all quiet is ↦ bytes_other bytes r is
    | no_memory few quiet is ↦ called r refusals.Memory is nine
  ]
  | no_answer request read due ↦ elim due [
    | no_room i vertex none at is ↦ called r (refusals.NoRoom vertex.name) is five
    | keys_out spots memory placed i net none at is ↦ called r (refusals.KeysOut net.name) is six
  ]
]

pub memory_other : (r : Refusal) → r ≡ refusals.Memory → IsOther (status_of r)
memory_other r is = called r refusals.Memory is nine
