-- What a node emits is its own: it carries the node's name, its slot and its configured slices, and what is filed is a whole envelope.
use Rattle.node_store.specs.Archives.{Archived}
use Rattle.std.proofs.Common.{◌≡◌, ◌++◌, Bool, true, false, not, ◌&&◌, ◌==◌, List, [], ◌∷◌, Option, Some, None, Result, Ok, Err, IfOk, OnOk, is_none, if◌then◌else◌, refl, sym, ◌∙◌, ap, subst, inl, inr, arith}
use Rattle.std.specs.Prelude.{⊤}
use Rattle.std.specs.List.{Contains}
use Rattle.std.proofs.lemmas.Bool.{false≢true}
use Rattle.std.proofs.lemmas.List.Elements.{All-contains, All-map, Contains-append_cases}
use Rattle.scp_types.specs.Statements.{Sent, IsEnvelope}
use Rattle.scp_types.specs.declared.ballot.Ballot.{Ballot}
use Rattle.scp_types.specs.declared.event.NodeEvent.{NodeEvent}
use Rattle.scp_types.specs.declared.event.Out.{Out}
use Rattle.scp_types.specs.declared.event.Out.TheVariants.{ArmNomination, ArmBallot, Emit, Externalized as Decided}
use Rattle.scp_types.specs.declared.statement.Statement.{Statement}
use Rattle.scp_spec.specs.Sameness.{same_sent}
use Rattle.scp_spec.specs.States.{counter_of, sent_nomination, sent_vote}
use Rattle.scp_spec.specs.Nodes.{Node, change, after_change, node_and_outs, step, outs, emission_between, externalization, when, is_externalized}
use Rattle.scp_spec.proofs.Sets.Contained.{contained_cases}
use Rattle.node_core.specs.declared.filed.FiledOut.{FiledOut}
use Rattle.node_core.specs.declared.filed.GivenOut.{GivenOut}
use Rattle.node_core.specs.declared.filed.FiledOut.TheVariants.{ArmNomination as FiledRound, ArmBallot as FiledCounter, Emit as FiledEmit, Externalized as FiledValue}
use Rattle.node_core.specs.Filings.{AreFiledOuts, IsFiledOut, out_of, whole_outs}
use Rattle.node_core.specs.NodeParts.{IsSentBy}

-- ---- lists of outs
-- who sends it, at which slot, with which slices
record Carries (n : Node) (e : Sent) : Type 0 where
  sender : e.sender ≡ n.name
  slot : e.slot ≡ n.slot
  slices : e.slices ≡ n.slices

-- what these outs emit is the node's own
record Own (n : Node) (os : List Out) : Type 0 where
  all : (e : Sent) → Contains os (Emit e) → Carries n e

none : (n : Node) → Own n []
none n = record { all = λ e c. let below = c.1 in absurd (omega arith) }

emits : Out → Bool
emits (ArmNomination r) = false
emits (ArmBallot b) = false
emits (Emit e) = true
emits (Decided x) = false

other : (n : Node) (o : Out) → emits o ≡ false → Own n (o ∷ [])
unfolding emits
other n o h = record {
  all = λ e c. elim (contained_cases (Emit e) o [] c) [
    | inl p ↦ absurd (false≢true (sym h ∙ ap emits p))
    | inr q ↦ (none n).all e q
  ];
}

one : (n : Node) (x : Sent) → Carries n x → Own n (Emit x ∷ [])
one n x s = record {
  all = λ e c. elim (contained_cases (Emit e) (Emit x) [] c) [
    | inl p ↦ let same : x ≡ e = cc in subst (Carries n) same s
    | inr q ↦ (none n).all e q
  ];
}

both : (n : Node) {xs ys : List Out} → Own n xs → Own n ys → Own n (xs ++ ys)
both n {xs} {ys} h k = record {
  all = λ e c. elim (Contains-append_cases xs ys (Emit e) c) [
    | inl l ↦ h.all e l
    | inr r ↦ k.all e r
  ];
}

-- ---- what is given out after an event
outs-own : (old new : Node) → Own new (outs old new)
unfolding outs emits
outs-own old new =
    both new (both new (both new (both new
    (armed (not (new.inputs.round == old.inputs.round) && is_none new.votes.confirmed_prepared) (ArmNomination new.inputs.round) refl)
    (armed (not (new.votes.armed == old.votes.armed) && (new.votes.armed == counter_of new.votes.ballot) && not (is_externalized new.votes.phase)) (ArmBallot new.votes.armed) refl))
    (sent (sent_nomination old.votes) (sent_nomination new.votes)))
    (sent (sent_vote old.votes) (sent_vote new.votes)))
    (last (is_externalized new.votes.phase && not (is_externalized old.votes.phase)) new.votes.ballot)
  where
    armed : (b : Bool) (o : Out) → emits o ≡ false → Own new (when b o)
    armed true o h = other new o h
    armed false o h = none new

    sent : (before after : Option Statement) → Own new (emission_between new before after)
    sent a None = none new
    sent a (Some s) = go (same_sent a (Some s))
      where
        go : (b : Bool) → Own new (if b then [] else Emit (record { sender = new.name; slot = new.slot; slices = new.slices; body = s }) ∷ [])
        go true = none new
        go false = one new (record { sender = new.name; slot = new.slot; slices = new.slices; body = s }) (record { sender = refl; slot = refl; slices = refl })

    last : (b : Bool) (o : Option Ballot) → Own new (if b then externalization o else [])
    last true None = none new
    last true (Some b) = other new (Decided b.value) refl
    last false o = none new

-- ---- a step
step-own : (n : Node) (e : NodeEvent) → Own (step n e).0 (step n e).1
unfolding step
step-own n e = go (after_change (change n e))
  where
    go : (o : Option Node) → Own (node_and_outs n o).0 (node_and_outs n o).1
    go None = none n
    go (Some m) = outs-own n m

-- ---- what is filed
IsWhole : Out → Type 0
IsWhole (ArmNomination r) = ⊤
IsWhole (ArmBallot b) = ⊤
IsWhole (Emit e) = IsEnvelope e
IsWhole (Decided x) = ⊤

filed-whole : (archive : Archived) (o : FiledOut) → IsFiledOut archive o → IsWhole (out_of o)
unfolding IsWhole
filed-whole archive (FiledRound r) h = tt
filed-whole archive (FiledCounter b) h = tt
filed-whole archive (FiledEmit f) h = h.1
filed-whole archive (FiledValue x) h = tt

all-whole : (archive : Archived) (os : List FiledOut) → AreFiledOuts archive os → (e : Sent) → Contains (whole_outs os) (Emit e) → IsEnvelope e
unfolding IsWhole
all-whole archive os h e c = All-contains IsWhole (whole_outs os) (Emit e) (All-map IsWhole out_of os (λ k d lt. filed-whole archive _ (h k d lt))) c

-- what the answer to an event emits is the node's own
pub emitted-own : {E : Type 0} (n new : Node) (archive : Archived) (event : NodeEvent) (r : Result GivenOut E) → OnOk r (new ≡ (step n event).0) → IfOk r (λ v. v.outs.items ≡ (step n event).1)
    → IfOk r (λ v. whole_outs v.filed.items ≡ v.outs.items) → IfOk r (λ v. AreFiledOuts archive v.filed.items) → IfOk r (λ v. (e : Sent) → Contains v.outs.items (Emit e) → IsSentBy new e)
emitted-own n new archive event (Ok v) node is whole filed = λ e c.
    let own : Carries new e = subst (λ (m : Node). Carries m e) (sym node) ((step-own n event).all e (subst (λ os. Contains os (Emit e)) is c)) in
    record { sender = own.sender; slot = own.slot; slices = own.slices; envelope = all-whole archive v.filed.items filed e (subst (λ os. Contains os (Emit e)) (sym whole) c) }
emitted-own n new archive event (Err x) node is whole filed = tt
