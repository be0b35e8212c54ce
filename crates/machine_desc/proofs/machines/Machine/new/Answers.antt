use Rattle.machine_desc.proofs.Common.{Description, TellsChips, arith, count_by}
use Rattle.machine_desc.proofs.Live.{live_counted}
use Rattle.machine_desc.proofs.machines.Machine.new.Goals as goal

pub invariant_of-result : goal.invariant_of-result
invariant_of-result c =
    let m : Description = record {
      width = c.args.parts.width;
      height = c.args.parts.height;
      wrap = c.args.parts.wrap;
      sdram = c.args.parts.sdram;
      dead_chips = c.args.parts.dead_chips;
      dead_cores = c.args.parts.dead_cores;
      dead_links = c.args.parts.dead_links;
    } in
    let told : TellsChips (record {
      width = c.args.parts.width;
      height = c.args.parts.height;
      small = (c.args.parts.width_fits.1, c.args.parts.height_fits.1);
    }) c.in_ok-chip_listed.chip_listed.items c.args.parts.dead_chips =
    rw (← c.as_slice.ensures) c.in_ok-chip_listed.ensures.told in
    record {
      size = grind arith;
      chips_long = c.in_ok-chip_listed.ensures.long;
      chips_told = told;
      cores_long = c.in_ok-core_listed.ensures.long;
      cores_told = rw (← c.as_slice-2.ensures) c.in_ok-core_listed.ensures.told;
      links_long = c.in_ok-link_listed.ensures.long;
      links_told = rw (← c.as_slice-3.ensures) c.in_ok-link_listed.ensures.told;
      live_counted = grind (arith, live_counted m c.in_ok-chip_listed.chip_listed.items c.in_ok-chip_listed.ensures.long told, count_by);
    }
