-- The laws, as the lemmas say them.
use Rattle.job_gen.proofs.{FewRows.few_rows, Fitting.gen_machine, Fitting.gen_vertices, Fitting.gen_nets, Fitting.gen_packets, Fitting.gen_queue, Fitting.gen_events}
use Rattle.job_gen.proofs.fits.generated_jobs_are_small.Goals as goal

pub returns : goal.returns
returns c = record {
  machine = gen_machine;
  vertices = gen_vertices;
  nets = gen_nets;
  packets = gen_packets;
  queue = gen_queue;
  events = gen_events;
  rows = few_rows;
}
