-- What a node emitted last of each kind since its slot was opened is what it would send now.
use Rattle.std.specs.Prelude.{◌≡◌, List, Option, None, filter, option_map}
use Rattle.std.specs.List.{AllByRecursion, last_or}
use Rattle.scp_types.specs.declared.kind.Kind.{Kind}
use Rattle.scp_types.specs.declared.kind.Kind.TheVariants.{Nomination}
use Rattle.scp_types.specs.declared.statement.Statement.{Statement}
use Rattle.scp_types.specs.declared.state.Votes.{Votes}
use Rattle.scp_types.specs.Statements.{Sent, kind_of}
use Rattle.scp_spec.specs.Rows.{is_kind}
use Rattle.scp_spec.specs.States.{sent_vote, sent_nomination}
use Rattle.scp_spec.specs.Networks.{Instance}
use Rattle.scp_spec.specs.Hosts.{Entry, Config}
use Rattle.scp_spec.specs.Runs.{state_of}

-- the statement of a kind that was emitted last
abbrev pub last_of : Kind → List Sent → Option Statement
last_of kind emitted = option_map (λ e. e.body) (last_or None (filter (λ e. is_kind kind (kind_of e.body)) emitted))

-- what votes send of a kind
abbrev pub sent_as : Kind → Votes → Option Statement
sent_as Nomination w = sent_nomination w
sent_as Kind.Ballot w = sent_vote w

-- what a node emitted last of each kind is what it would send now; it emitted none of a kind if it would send none
abbrev pub SendsItsLast : Instance → Type 0
SendsItsLast p = (kind : Kind) → last_of kind p.emitted ≡ sent_as kind p.node.votes

-- After any entries, each hosted node at each open slot would send now what it emitted last of each kind. So what
-- differs from the last one emitted is what differs from the one that would have been sent before. Statements are
-- compared, not envelopes, since slices may change after the last one.
abbrev pub LastIsSent : Type 0
LastIsSent = (config : Config) (before : List Entry)
    → AllByRecursion (λ s. AllByRecursion SendsItsLast s.instances) (state_of config before).slots
