-- What the lines of a script tell its networks to become, and what they print.
use Rattle.std.specs.Prelude.{◌≡◌, ℕ, true, false, List, Option, Some, None, Result}
use Rattle.line_script.specs.Script.{Bytes}
use Rattle.host_network.specs.declared.applied.Given.{Given}
use Rattle.host_journal.specs.Logs.{Log}
use Rattle.scp_types.specs.declared.event.Refusal.{Refusal}
use Rattle.line_request.specs.declared.request.Declaration.{Declaration}
use Rattle.line_request.specs.declared.request.Declaration.TheVariants.{Net}
use Rattle.line_request.specs.declared.request.Request.TheVariants.{Declare, Apply, Settle}
use Rattle.line_request.specs.declared.order.Order.{Order}
use Rattle.line_request.specs.declared.order.Order.TheVariants as order
use Rattle.line_request.specs.Naming.{Named, is_in, served_with}
use Rattle.line_request.specs.Ordering.{Orders}
use Rattle.line_request.specs.Preparing.{Prepares}
use Rattle.line_request.specs.Replies.{reply_text}
use Rattle.line_request.specs.Taking.{is_declared, takes}
use Rattle.line_request.specs.Telling.{RefusesOrder, is_unserved, may_apply}
use Rattle.host_world.specs.Worlds.{items_of, log_at}
use Rattle.line_run.specs.declared.outcome.Outcome.{Outcome}
use Rattle.line_run.specs.declared.outcome.Outcome.TheVariants.{Declared, Answer, Answers, Settled}
use Rattle.line_run.specs.Hosting.{Hosting, IsNetworkBegun}
use Rattle.line_run.specs.ReplyLines.{reply_lines}
use Rattle.line_run.specs.ServedNetworks.{AreAllDelivered, IsDropAnswered, IsEventPut}
use Rattle.line_run.specs.Settling.{IsSettled, settling_line}

-- A declaration of the network of a number is taken. Nothing changes of the networks that joined, nor of the emissions
-- that wait. The numbers are these from then on.
pub record IsDeclaredSo (g : ℕ) (d : Declaration) (named : Named) (old new : Hosting) : Type 0 where
  pub taken : takes old.waiting old.named g d ≡ true
  pub prepared : Prepares g d old.waiting new.waiting
  pub named_is : new.named ≡ named
  pub unheard : new.unheard ≡ old.unheard
  pub logs : new.logs ≡ old.logs

-- bytes come to all nodes of the network of a number, and these are the answers
abbrev pub IsPutToAll : ℕ → Bytes → Hosting → List (Result Given Refusal) → Hosting → Type 0
IsPutToAll g bytes old rs new = (begun : Hosting) × IsNetworkBegun g old begun × AreAllDelivered g bytes begun rs new

-- What a line does that orders this of the network of a number, and what comes of it. A declaration that is taken names
-- nothing; one with the word `served` says moreover that the network is. An event is put to its network, but no hearing
-- to one that is served. A line that settles hands on what nodes of a network that is not served have emitted. Bytes
-- for all nodes come to each node of a served network, and `drop` takes one back; if none is declared, that is refused.
abbrev pub Does : ℕ → Order → Hosting → Outcome → Hosting → Type 0
Does g (order.Request (Declare d)) old Declared new = IsDeclaredSo g d old.named old new
Does g (order.Request (Apply e)) old (Answer r) new = (may_apply old.named g e ≡ true) × IsEventPut g e old r new
Does g (order.Request (Settle slot)) old (Settled i ended) new =
    (is_in old.named.served g ≡ false) × IsSettled g slot old ended new × (i ≡ slot)
Does g (order.Serve b) old Declared new = IsDeclaredSo g (Net b) (served_with g old.named) old new
Does g (order.ForAll bytes) old (Answers rs) new =
    (is_unserved old.waiting old.named g ≡ false) × IsPutToAll g bytes old rs.items new
Does g order.Drop old (Answer r) new =
    (is_unserved old.waiting old.named g ≡ false) × IsDropAnswered (is_declared old.waiting old.named g) g old (items_of r) new
Does g o old outcome new = ⊥

-- a line with these fields does what it orders of the network of a number, and this comes of it
abbrev pub IsLineCarriedOut : ℕ → List Bytes → Hosting → Outcome → Hosting → Type 0
IsLineCarriedOut g fields old outcome new = (o : Order) × Orders fields g o × Does g o old outcome new

-- What is printed of what came of a line, by the journal of its network after it. Of a declaration it is nothing, of an
-- event or a `drop` its answer, and of bytes for all nodes each answer. Of a slot that settles it is the refusal that
-- ended it, or else what has been decided. What others hear of an event in a served network prints nothing.
abbrev pub printed_of : Outcome → Option Log → Option Bytes
printed_of Declared l = None
printed_of (Answer r) l = Some (reply_text (items_of r))
printed_of (Answers rs) l = Some (reply_lines rs.items)
printed_of (Settled slot ended) l = Some (settling_line ended l slot)

-- what a line tells: what it orders is done, and what comes of it printed
abbrev pub Tells : Hosting → List Bytes → Option Bytes → Hosting → Type 0
Tells old fields printed new =
    (g : ℕ) × (outcome : Outcome) × IsLineCarriedOut g fields old outcome new × (printed ≡ printed_of outcome (log_at new.logs g))

-- a line is bad in a script of networks: it has none of the forms, or what it orders is not taken
abbrev pub RefusesLine : Hosting → List Bytes → Type 0
RefusesLine old fields = RefusesOrder old.waiting old.named fields
