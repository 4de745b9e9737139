-- What a node emitted last of each kind is what it would send now. The law `last_emitted_is_sent` stands on it.
use Rattle.scp_types.specs.declared.event.NodeEvent.{NodeEvent}
use Rattle.scp_types.specs.declared.event.Out.{Out}
use Rattle.scp_types.specs.declared.event.Out.TheVariants.{ArmNomination, ArmBallot, Emit}
use Rattle.std.proofs.Common.{◌≡◌, ℕ, ◌≤◌, Bool, true, false, not, cond, ◌&&◌, ◌||◌, ◌==◌, nat_lt, length, List, [], ◌∷◌, ◌++◌, filter, Option, Some, None, option_map, if◌then◌else◌, is_none, is_some, refl, sym, ◌∙◌, ap, arith}
use Rattle.std.specs.List.{last_or}
use Rattle.std.proofs.lemmas.Bool.{false≢true}
use Rattle.std.proofs.lemmas.Bool.Decides.{nat_tests}
use Rattle.std.proofs.lemmas.List.Elements.{filter-append, filter_map-append}
use Rattle.scp_types.specs.declared.ballot.Ballot.{Ballot}
use Rattle.scp_types.specs.declared.kind.Kind.{Kind}
use Rattle.scp_types.specs.declared.kind.Kind.TheVariants.{Nomination}
use Rattle.scp_types.specs.declared.statement.Statement.{Statement}
use Rattle.scp_types.specs.declared.statement.Statement.TheVariants.{Nominate}
use Rattle.scp_types.specs.declared.state.Phase.{Phase}
use Rattle.scp_types.specs.declared.state.Phase.TheVariants.{Preparing, Committing, Externalized}
use Rattle.scp_types.specs.declared.state.Votes.{Votes}
use Rattle.scp_types.specs.Statements.{Sent, kind_of}
use Rattle.scp_spec.specs.Rows.{is_kind}
use Rattle.scp_spec.specs.Sameness.{same_sent}
use Rattle.scp_spec.specs.States.{counter_of, sent_in, sent_vote, sent_nomination}
use Rattle.scp_spec.specs.Nodes.{Node, fresh, change, after_change, node_and_outs, step, when, emission_between, externalization, outs, is_externalized}
use Rattle.scp_spec.specs.Networks.{HostedNode, Instance, emission_of, emissions, after_event}
use Rattle.scp_spec.specs.Hosts.{new_net}
use Rattle.scp_spec.specs.LastSent.{last_of, sent_as, SendsItsLast, LastIsSent}
use Rattle.scp_spec.proofs.Equality.Sameness.{same_sent-true}
use Rattle.scp_spec.proofs.Nodes.Made.{if_node, said_by}
use Rattle.scp_spec.proofs.Sending.Growth.{Grows, event-grows}
use Rattle.scp_spec.proofs.Networks.Instances.{run-all}

-- ---- lists
pub last-append : {A : Type 0} (o : Option A) (xs ys : List A) → last_or o (xs ++ ys) ≡ last_or (last_or o xs) ys
last-append o [] ys = refl
last-append o (x ∷ xs) ys = last-append (Some x) xs ys

-- the last envelope of a kind that was emitted, after more was given out
abbrev after : Kind → Option Sent → List Out → Option Sent
after kind o os = last_or o (filter (λ e. is_kind kind (kind_of e.body)) (emissions os))

after-append : (kind : Kind) (o : Option Sent) (xs ys : List Out)
    → after kind o (xs ++ ys) ≡ after kind (after kind o xs) ys
after-append kind o xs ys =
    ap (λ (es : List Sent). last_or o (filter (λ e. is_kind kind (kind_of e.body)) es))
    (filter_map-append emission_of xs ys)
    ∙ (ap (λ (es : List Sent). last_or o es)
    (filter-append (λ e. is_kind kind (kind_of e.body)) (emissions xs) (emissions ys))
    ∙ last-append o (filter (λ e. is_kind kind (kind_of e.body)) (emissions xs))
    (filter (λ e. is_kind kind (kind_of e.body)) (emissions ys)))

-- ---- what is given out
module _ (kind : Kind) where
  armed : (o : Option Sent) (b : Bool) (x : Out) → after kind o (x ∷ []) ≡ o → after kind o (when b x) ≡ o
  armed o true x h = h
  armed o false x h = refl

  last : (o : Option Sent) (b : Bool) (x : Option Ballot) → after kind o (if b then externalization x else []) ≡ o
  last o true None = refl
  last o true (Some b) = refl
  last o false x = refl

  -- a statement of another kind
  other : (n : Node) (o : Option Sent) (a x : Option Statement)
      → ((s : Statement) → x ≡ Some s → is_kind kind (kind_of s) ≡ false) → after kind o (emission_between n a x) ≡ o
  other n o a None f = refl
  other n o a (Some s) f = go (same_sent a (Some s))
    where
      go : (b : Bool) → after kind o (if b then [] else Emit (said_by n s) ∷ []) ≡ o
      go true = refl
      go false = ap (λ b. last_or o (cond b (said_by n s ∷ []) [])) (f s refl)

  -- one of this kind: it is emitted where it is not the one before
  own : (n : Node) (o : Option Sent) (a x : Option Statement) → option_map (λ e. e.body) o ≡ a
      → ((s : Statement) → x ≡ Some s → is_kind kind (kind_of s) ≡ true) → (is_some a ≡ true → is_some x ≡ true)
      → option_map (λ e. e.body) (after kind o (emission_between n a x)) ≡ x
  own n o None None h f m = h
  own n o (Some y) None h f m = absurd (false≢true (m refl))
  own n o a (Some s) h f m = go (same_sent a (Some s)) refl
    where
      go : (b : Bool) → same_sent a (Some s) ≡ b
          → option_map (λ e. e.body) (after kind o (if b then [] else Emit (said_by n s) ∷ [])) ≡ Some s
      go true e = h ∙ same_sent-true a (Some s) e
      go false e =
          ap (λ b. option_map (λ (x : Sent). x.body) (last_or o (cond b (said_by n s ∷ []) []))) (f s refl)

  -- of all that is given out, the two statements count
  outs-after : (o : Option Sent) (old new : Node)
      → after kind o (outs old new)
      ≡ after kind (after kind o (emission_between new (sent_nomination old.votes) (sent_nomination new.votes)))
      (emission_between new (sent_vote old.votes) (sent_vote new.votes))
  unfolding outs
  outs-after o old new =
      let a = when (not (new.inputs.round == old.inputs.round) && is_none new.votes.confirmed_prepared)
      (ArmNomination new.inputs.round) in
      let b = when (not (new.votes.armed == old.votes.armed) && (new.votes.armed == counter_of new.votes.ballot)
      && not (is_externalized new.votes.phase)) (ArmBallot new.votes.armed) in
      let c = emission_between new (sent_nomination old.votes) (sent_nomination new.votes) in
      let d = emission_between new (sent_vote old.votes) (sent_vote new.votes) in
      let e = if is_externalized new.votes.phase
      && not (is_externalized old.votes.phase) then externalization new.votes.ballot else [] in
      after-append kind o (((a ++ b) ++ c) ++ d) e
      ∙ (last (after kind o (((a ++ b) ++ c) ++ d))
      (is_externalized new.votes.phase && not (is_externalized old.votes.phase)) new.votes.ballot
      ∙ (after-append kind o ((a ++ b) ++ c) d
      ∙ ap (λ p. after kind p d) (after-append kind o (a ++ b) c
      ∙ ap (λ p. after kind p c) (after-append kind o a b
      ∙ (armed (after kind o a) (not (new.votes.armed == old.votes.armed)
      && (new.votes.armed == counter_of new.votes.ballot) && not (is_externalized new.votes.phase))
      (ArmBallot new.votes.armed) refl
      ∙ armed o (not (new.inputs.round == old.inputs.round) && is_none new.votes.confirmed_prepared)
      (ArmNomination new.inputs.round) refl)))))

-- ---- the two statements
nomination-kind : (w : Votes) (s : Statement) → sent_nomination w ≡ Some s → kind_of s ≡ Nomination
unfolding sent_nomination
nomination-kind w s h = go (nat_lt 0 (length w.voted) || nat_lt 0 (length w.accepts)) h
  where
    go : (b : Bool) → (if b then Some (Nominate w.voted w.accepts) else None) ≡ Some s → kind_of s ≡ Nomination
    go true e = let same : Nominate w.voted w.accepts ≡ s = cc in ap kind_of (sym same)
    go false e = cc

vote-kind : (w : Votes) (s : Statement) → sent_vote w ≡ Some s → kind_of s ≡ Kind.Ballot
unfolding sent_vote sent_in
vote-kind w s h = go w.ballot h
  where
    in_phase : (p : Phase) (b : Ballot) → kind_of (sent_in p w b) ≡ Kind.Ballot
    in_phase Preparing b = refl
    in_phase Committing b = refl
    in_phase Externalized b = refl

    go : (o : Option Ballot) → option_map (sent_in w.phase w) o ≡ Some s → kind_of s ≡ Kind.Ballot
    go None e = cc
    go (Some b) e = let same : sent_in w.phase w b ≡ s = cc in ap kind_of (sym same) ∙ in_phase w.phase b

nomination-stays : (old w : Votes) → Grows old w → is_some (sent_nomination old) ≡ true
    → is_some (sent_nomination w) ≡ true
unfolding sent_nomination
nomination-stays old w g h =
    sent (nat_lt 0 (length w.voted) || nat_lt 0 (length w.accepts))
    (some (length old.voted) (length w.voted) (length old.accepts) (length w.accepts) g.voted g.accepts
    (was (nat_lt 0 (length old.voted) || nat_lt 0 (length old.accepts)) h))
  where
    was : (b : Bool) → is_some (if b then Some (Nominate old.voted old.accepts) else None) ≡ true → b ≡ true
    was true e = refl
    was false e = absurd (false≢true e)

    sent : (b : Bool) → b ≡ true → is_some (if b then Some (Nominate w.voted w.accepts) else None) ≡ true
    sent true e = refl
    sent false e = absurd (false≢true e)

    some : (a b c d : ℕ) → a ≤ b → c ≤ d → (nat_lt 0 a || nat_lt 0 c) ≡ true → (nat_lt 0 b || nat_lt 0 d) ≡ true
    some a b c d i j k = grind (arith, nat_tests)

vote-stays : (old w : Votes) → Grows old w → is_some (sent_vote old) ≡ true → is_some (sent_vote w) ≡ true
unfolding sent_vote
vote-stays old w g h = sent w.ballot (g.ballot (was old.ballot h))
  where
    was : (o : Option Ballot) → is_some (option_map (sent_in old.phase old) o) ≡ true → is_some o ≡ true
    was None e = absurd (false≢true e)
    was (Some b) e = refl

    sent : (o : Option Ballot) → is_some o ≡ true → is_some (option_map (sent_in w.phase w) o) ≡ true
    sent None e = absurd (false≢true e)
    sent (Some b) e = refl

-- ---- a step
step-sends : (old new : Node) → Grows old.votes new.votes → (kind : Kind) (o : Option Sent)
    → option_map (λ e. e.body) o ≡ sent_as kind old.votes
    → option_map (λ e. e.body) (after kind o (outs old new)) ≡ sent_as kind new.votes
step-sends old new g Nomination o h =
    ap (λ (p : Option Sent). option_map (λ e. e.body) p) (outs-after Nomination o old new
    ∙ other Nomination new
    (after Nomination o (emission_between new (sent_nomination old.votes) (sent_nomination new.votes)))
    (sent_vote old.votes) (sent_vote new.votes) (λ s e. ap (is_kind Nomination) (vote-kind new.votes s e)))
    ∙ own Nomination new o (sent_nomination old.votes) (sent_nomination new.votes) h
    (λ s e. ap (is_kind Nomination) (nomination-kind new.votes s e)) (nomination-stays old.votes new.votes g)
step-sends old new g Kind.Ballot o h =
    ap (λ (p : Option Sent). option_map (λ e. e.body) p) (outs-after Kind.Ballot o old new
    ∙ ap (λ p. after Kind.Ballot p (emission_between new (sent_vote old.votes) (sent_vote new.votes)))
    (other Kind.Ballot new o (sent_nomination old.votes) (sent_nomination new.votes)
    (λ s e. ap (is_kind Kind.Ballot) (nomination-kind new.votes s e))))
    ∙ own Kind.Ballot new o (sent_vote old.votes) (sent_vote new.votes) h
    (λ s e. ap (is_kind Kind.Ballot) (vote-kind new.votes s e)) (vote-stays old.votes new.votes g)

last_of-more : (kind : Kind) (emitted : List Sent) (os : List Out)
    → last_of kind (emitted ++ emissions os)
    ≡ option_map (λ e. e.body) (after kind (last_or None (filter (λ e. is_kind kind (kind_of e.body)) emitted)) os)
last_of-more kind emitted os =
    ap (λ (es : List Sent). option_map (λ (e : Sent). e.body) (last_or None es))
    (filter-append (λ e. is_kind kind (kind_of e.body)) emitted (emissions os))
    ∙ ap (λ (p : Option Sent). option_map (λ e. e.body) p)
    (last-append None (filter (λ e. is_kind kind (kind_of e.body)) emitted)
    (filter (λ e. is_kind kind (kind_of e.body)) (emissions os)))

after_event-sends : (e : NodeEvent) (p : Instance) → SendsItsLast p → SendsItsLast (after_event e p)
unfolding after_event step
after_event-sends e p h kind =
    last_of-more kind p.emitted (node_and_outs p.node (after_change (change p.node e))).1
    ∙ go (after_change (change p.node e)) (event-grows p.node e)
  where
    before : Option Sent
    before = last_or None (filter (λ e. is_kind kind (kind_of e.body)) p.emitted)

    go : (o : Option Node) → if_node (λ m. Grows p.node.votes m.votes) o
        → option_map (λ e. e.body) (after kind before (node_and_outs p.node o).1)
        ≡ sent_as kind (node_and_outs p.node o).0.votes
    go None g = h kind
    go (Some m) g = step-sends p.node m g kind before (h kind)

fresh-sends : (i : ℕ) (h : HostedNode) → SendsItsLast (record { node = fresh i h.name h.slices; emitted = [] })
unfolding fresh sent_nomination sent_vote
fresh-sends i h Nomination = refl
fresh-sends i h Kind.Ballot = refl

pub last_is_sent : LastIsSent
last_is_sent config before = run-all SendsItsLast fresh-sends after_event-sends (new_net config) before tt
