use Rattle.live_host.proofs.ErasedServed as served
use Rattle.live_host.proofs.erasing.erased_nets_serve_alike.Goals as goal

pub returns : goal.returns
returns c = record {
  done = served.erased_nets_serve_alike;
  refused = served.erased_nets_refuse_events_alike;
  there = served.events_there_are_erased;
}
