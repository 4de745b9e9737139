-- Entries that only contracts know.
use Rattle.scp_spec.specs.Hosts.{Entry}
use Rattle.host_network.specs.Decoding.{step_of}
use Rattle.node_core.specs.Filings.{whole_outs}
use Rattle.host_journal.specs.declared.unkept.PastEntry.{PastEntry}

-- an entry of the past, with whole envelopes
abbrev pub past_entry : PastEntry → Entry
past_entry x = record { event = step_of x.event.value; outs = whole_outs x.outs.value.items }
