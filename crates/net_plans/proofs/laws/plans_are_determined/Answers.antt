use Rattle.net_plans.proofs.Determined.{one_plan, one_list_of_plans}
use Rattle.net_plans.proofs.laws.plans_are_determined.Goals as goal

pub returns : goal.returns
returns c = record {
  one_plan = λ m spots net block p q sites. one_plan m spots sites net block p q;
  one_list = λ m spots nets blocks ps qs sites long. one_list_of_plans m spots sites nets blocks long ps qs;
}
