-- How counts move with each step. The law `room_is_counted`, `Room` and the crate `host_network` stand on it.
use Rattle.std.proofs.Common.{◌+◌, length, sum_by, sym, ap, subst}
use Rattle.scp_spec.specs.Networks.{Net, Step, source, size_of, on_budgets, on_opens, state_and_reply, net_step}
use Rattle.scp_spec.specs.Counts.{IsCountedAfter, StepsAreCounted}
use Rattle.scp_spec.proofs.Networks.Effects.{next, effect-keeps}
use Rattle.scp_spec.proofs.Networks.Counts.{drawn-anew, drawn-next, sum-length, sum-each}

pub counted-next : (net : Net) (e : Step) → IsCountedAfter net e (next net e)
counted-next net e =
    let k = effect-keeps net e in
    record {
      events = ap (λ n. n + on_budgets (source net.roster e) 1) k.events;
      bytes = ap (λ n. n + on_budgets (source net.roster e) (size_of e)) k.bytes;
      opens = ap (λ n. n + on_opens (source net.roster e)) k.opens;
      renewed = λ i t o. (ap length (drawn-anew net e i t o), ap (sum_by (λ d. d.size)) (drawn-anew net e i t o));
      share_events = λ i t. drawn-next net e i t (λ n. 1) length sum-length;
      share_bytes = λ i t. drawn-next net e i t (λ n. n) (sum_by (λ d. d.size)) (sum-each (λ d. d.size));
    }

pub steps_are_counted : StepsAreCounted
unfolding net_step
steps_are_counted net e h = subst (λ o. IsCountedAfter net e (state_and_reply net e o).0) (sym h) (counted-next net e)
