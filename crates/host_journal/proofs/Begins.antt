-- A journal without entries.
use Rattle.std.proofs.Common.{◌≡◌, ◌<◌, List, [], refl, sym, subst, arith}
use Rattle.std.proofs.lemmas.List.Elements.{All-nil}
use Rattle.scp_spec.specs.Hosts.{Config, Entry}
use Rattle.scp_spec.specs.Networks.{HostedNode}
use Rattle.node_store.specs.Archives.{Archived}
use Rattle.scp_spec.specs.Runs.{net_after}
use Rattle.node_core.specs.Filings.{AreFiledOuts}
use Rattle.host_journal.specs.declared.kept.StoredEntry.{StoredEntry}
use Rattle.host_journal.specs.declared.outs_list.EntryOuts.{EntryOuts}
use Rattle.host_journal.specs.Giving.{kept_outs}
use Rattle.host_journal.specs.Keeping.{AreKept, IsKeptEvent}
use Rattle.host_network.specs.FiledSlots.{CountedSlot, IsTallied}
use Rattle.host_journal.specs.Logs.{IsJournal}
use Rattle.host_network.specs.Standing.{FiledMachine, machine_of}
use Rattle.std.specs.List.{All}

pub nothing-kept : (nodes : List HostedNode) (archive : Archived) (lists : List EntryOuts) (xs : List StoredEntry) → lists ≡ [] → xs ≡ [] → AreKept nodes archive lists xs
nothing-kept nodes archive lists xs fresh none =
    subst (λ (l : List EntryOuts × List StoredEntry). AreKept nodes archive l.0 l.1) (λ i. (sym fresh i, sym none i)) (
      All-nil (λ (x : StoredEntry). IsKeptEvent nodes archive x.event × AreFiledOuts archive (kept_outs x.outs)),
      record {
        ascending = λ i j d l m. absurd (omega (arith, m));
        earlier = All-nil (λ (x : EntryOuts). x.entry < 0);
        listed = λ k d l. absurd (omega (arith, l));
      },
    )

begins : (config : Config) → IsJournal (machine_of (record { config = config; archive = []; slots = []; events = 0; bytes = 0; opens = 0 })) []
unfolding net_after
begins config = record {
  run = record { applied = λ k x h. absurd (cc); outs = λ k x h. absurd (cc) };
  state = record { is = refl; tallied = All-nil (λ (s : CountedSlot). All (IsTallied s.number []) s.instances) };
}

pub fresh-journal : (config : Config) (m : FiledMachine) (es : List Entry) → m ≡ record { config = config; archive = []; slots = []; events = 0; bytes = 0; opens = 0 } → es ≡ [] → IsJournal (machine_of m) es
fresh-journal config m es is none =
    subst (λ (s : FiledMachine). IsJournal (machine_of s) es) (sym is)
    (subst (λ (l : List Entry). IsJournal (machine_of (record { config = config; archive = []; slots = []; events = 0; bytes = 0; opens = 0 })) l) (sym none) (begins config))
