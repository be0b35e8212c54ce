use Rattle.job_gen.proofs.Common.{All, DrawnNet, List, NeedsKey, ap, arith, drawn_from, drawn_net, drawn_packet, draws, length, subst, sym, ℕ, ◌∙◌, ◌≡◌}
use Rattle.job_gen.specs.Draws.{drawn, drawn_sdram, seeded}
use Rattle.job_gen.proofs.{DrawLemmas.number_drawn, DrawLemmas.job_from, DrawnLaws.all_keys, DrawnLaws.nets_drawn}
use Rattle.job_gen.proofs.draws.draw_job.Goals as goal

keyed : (nets : List DrawnNet) (g h : List ℕ) → (nets, h) ≡ draws drawn_net 300 g → All NeedsKey nets
keyed nets g h is = grind (arith, all_keys (draws drawn_net 300 g).0 (nets_drawn 300 g), nets_drawn 300 g)

pub invariant_of-all : goal.invariant_of-all
invariant_of-all c = record {
  many = ap length c.as_slice.ensures ∙ number_drawn drawn_net 300 c.draw_numbers.new.generator c.draw_nets.new.generator c.in_ok-nets.nets c.in_ok-nets.ensures;
  keys = subst (All NeedsKey) (sym c.as_slice.ensures) (keyed c.in_ok-nets.nets c.draw_numbers.new.generator c.draw_nets.new.generator c.in_ok-nets.ensures);
}

pub returns : goal.returns
unfolding drawn seeded drawn_sdram
returns c =
    job_from c.seed_from_u64-generator.result c.draw_numbers.new.generator c.draw_nets.new.generator c.draw_packets.new.generator c.in_ok-sdrams.sdrams c.in_ok-nets.nets c.in_ok-packets.packets
    c.in_ok-sdrams.ensures c.in_ok-nets.ensures
    (c.in_ok-packets.ensures ∙ ap (λ (l : List DrawnNet). draws (drawn_packet l) 1200 c.draw_nets.new.generator) c.as_slice.ensures)
    ∙ ap drawn_from c.seed_from_u64-generator.ensures
