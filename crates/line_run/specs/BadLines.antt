-- No line of a script of networks is both bad and told: the laws of what runs lines, and their proofs.
use Rattle.std.proofs.Common.{◌≡◌, ◌∙◌, ◌++◌, ℕ, Bool, true, false, not, List, [], ◌∷◌, Option, Some, None, inl, inr, refl, sym, ap, subst}
use Rattle.std.specs.Prelude.{IfSome, codes, option_and_then, option_map}
use Rattle.std.proofs.lemmas.Bool.{false≢true}
use Rattle.line_script.specs.Runs.{BadLinesAreUntold}
use Rattle.line_script.specs.Script.{Bytes}
use Rattle.line_script.specs.Names.{word_name}
use Rattle.line_script.specs.Slices.{AreSlices}
use Rattle.line_script.specs.Words.{word_counter}
use Rattle.line_script.proofs.SlicesSpelled.{slices_spelled_once}
use Rattle.scp_codec.specs.Spelling.{spelling}
use Rattle.scp_types.specs.declared.event.Event.{Event}
use Rattle.scp_types.specs.declared.event.Event.TheVariants as event
use Rattle.scp_types.specs.Trees.{Slices}
use Rattle.scp_types.specs.Statements.{Sent}
use Rattle.scp_types.specs.declared.statement.Statement.{Statement}
use Rattle.scp_spec.specs.Networks.{Budgets}
use Rattle.scp_spec.specs.Rosters.{Shares}
use Rattle.host_config.specs.declared.roster.Reservation.{Reservation}
use Rattle.line_request.specs.declared.request.Declaration.TheVariants.{Node, Roster}
use Rattle.line_request.specs.declared.request.Request.{Request}
use Rattle.line_request.specs.declared.request.Request.TheVariants.{Declare, Apply, Settle}
use Rattle.line_request.specs.declared.ask.Ask.{Ask as Asked}
use Rattle.line_request.specs.declared.form.Form.{Form}
use Rattle.line_request.specs.declared.form.Form.TheVariants as form
use Rattle.line_request.specs.declared.order.Order.{Order}
use Rattle.line_request.specs.declared.order.Order.TheVariants as order
use Rattle.line_request.specs.declared.verbs.Verb.{Verb}
use Rattle.line_request.specs.declared.verbs.Verb.TheVariants as verb
use Rattle.line_request.specs.declared.verbs.EventVerb.{EventVerb}
use Rattle.line_request.specs.declared.verbs.EventVerb.TheVariants as ask
use Rattle.line_request.specs.Outlines.{Outlined, Waiting, waiting_at}
use Rattle.line_run.specs.Joining.{NetworkIsNamedAt, Joins}
use Rattle.line_request.specs.Asking.{IsAskedAs, IsForAll, IsNet, IsOfScript, IsServedNet, asked_by, for_all_by}
use Rattle.line_request.specs.Forms.{form_in, is_word}
use Rattle.line_request.specs.Naming.{Named, is_in}
use Rattle.line_request.specs.Ordering.{IsLineOrder, IsOrderedBy, order_by}
use Rattle.line_request.specs.Preparing.{IsPrepared}
use Rattle.line_request.specs.Taking.{takes}
use Rattle.line_request.specs.Lines.{AreSaid, AsksReslice, AsksResliceOf, AsksSay, AsksSayOf, IsEventAsked, IsRead, IsResliced, IsSaid, five, saying_in, slot_and_node_in, three, verb_in}
use Rattle.line_request.specs.Requests.{AreAllowed, AsksNode, AsksRoster, IsNode, IsRequest, IsRequestOf, IsRequested, IsReserved, budgets_in, shares_in}
use Rattle.line_request.specs.Telling.{Allowed, HasNoNode, IsBadOrder, IsBadRequest, IsBadToAsk, IsBare, RefusesAsked, RefusesOrder, is_unserved, may_apply}
use Rattle.line_run.specs.Hosting.{Hosting, IsNetworkBegun, logs_joined}
use Rattle.line_run.specs.declared.outcome.Outcome.{Outcome}
use Rattle.line_run.specs.declared.outcome.Outcome.TheVariants.{Declared, Answer, Answers, Settled}
use Rattle.line_run.specs.Running.{Does, IsLineCarriedOut, RefusesLine, Tells}
use Rattle.line_run.specs.Unprinted.{RefusesUnprinted, TellsUnprinted}
use Rattle.line_run.specs.Submitting.{IsNetworkDeclared, RefusesToSubmit, Submits, Submitting, declared_once, may_submit, allowed_to_submit}
use Rattle.line_run.specs.Submitting.Submits.{declares as submits_declaration, submits}

-- ---- of two readings of one line, what the one asks for is bad if what the other asks for is

-- what holds of one of these holds of each
abbrev pub AreReadAlike : {X : Type 0} → (X → Type 0) → (Option X → Type 0) → Type 0
AreReadAlike {X} asks P = (x y : X) → asks x → asks y → P (Some y) → P (Some x)

-- Let it hold if nothing is read, and of two readings alike. Then it holds of each reading of a line if it does of one.
by-reading : {X : Type 0} (asks : X → Type 0) (P : Option X → Type 0) → P None → AreReadAlike asks P → (o p : Option X) → IsRead asks o → IsRead asks p → P p → P o
by-reading asks P nothing alike None p h k bad = nothing
by-reading asks P nothing alike (Some x) None h k bad = absurd (k x h)
by-reading asks P nothing alike (Some x) (Some y) h k bad = alike x y h k bad

-- ---- lists with one behind

none-behind : {A : Type 0} (xs : List A) (x : A) → [] ≡ xs ++ x ∷ [] → ⊥
none-behind [] x e = cc
none-behind (y ∷ xs) x e = cc

first-same : {A : Type 0} (x y : A) (xs ys : List A) → x ∷ xs ≡ y ∷ ys → (x ≡ y) × (xs ≡ ys)
first-same x y xs ys e = (cc, cc)

one-behind : {A : Type 0} (xs ys : List A) (x y : A) → xs ++ x ∷ [] ≡ ys ++ y ∷ [] → (xs ≡ ys) × (x ≡ y)
one-behind [] [] x y e = (refl, (first-same x y [] [] e).0)
one-behind [] (w ∷ ys) x y e = absurd (none-behind ys y (first-same x w [] (ys ++ y ∷ []) e).1)
one-behind (v ∷ xs) [] x y e = absurd (none-behind xs x (sym (first-same v y (xs ++ x ∷ []) [] e).1))
one-behind (v ∷ xs) (w ∷ ys) x y e =
    let parts = first-same v w (xs ++ x ∷ []) (ys ++ y ∷ []) e in
    let more = one-behind xs ys x y parts.1 in
    ((λ i. parts.0 i ∷ more.0 i), more.1)

same-names : (o : Option (List ℕ)) (us vs : List ℕ) → o ≡ Some us → o ≡ Some vs → us ≡ vs
same-names o us vs e f = cc

-- what is so of a roster is so of each other with the same names and shares: all else is read in one way
abbrev pub IsOfWords : (Request → Type 0) → Type 0
IsOfWords P = (d e : Reservation) → d.names.items ≡ e.names.items → d.shares ≡ e.shares → P (Declare (Roster d)) → P (Declare (Roster e))

same-some : {A : Type 0} (o : Option A) (a b : A) → o ≡ Some a → o ≡ Some b → a ≡ b
same-some o a b e f = let g : Some a ≡ Some b = sym e ∙ f in cc

-- two slices that a word spells are one
same-slices : (word : Bytes) (q r : Slices) → AreSlices word (Some q) → AreSlices word (Some r) → q ≡ r
same-slices word q r h k = slices_spelled_once q r word h.0 h.1 k.0 k.1

same-sent : (d e : Sent) → ◌≡◌ {A = ℕ × ℕ × Statement} (d.sender, d.slot, d.body) (e.sender, e.slot, e.body) → d.slices ≡ e.slices → d ≡ e
same-sent d e h q = λ i. record { sender = (h i).0; slot = (h i).1; slices = q i; body = (h i).2 }

-- what is said in the same words are the same bytes
same-bytes : (xs ys from i slices statement : Bytes) → AreSaid xs from i slices statement → AreSaid ys from i slices statement → xs ≡ ys
same-bytes xs ys from i slices statement (d, s, h, q) (e, t, k, r) =
    let said = same-some (saying_in from i statement) (d.sender, d.slot, d.body) (e.sender, e.slot, e.body) h k in
    s.text ∙ (ap (λ c. spelling c) (same-sent d e said (same-slices slices d.slices e.slices q r)) ∙ sym t.text)

module _ (P : ℕ → Request → Type 0) (words : (g : ℕ) → IsOfWords (P g)) where
  -- it is so of what is asked for, if anything is
  abbrev IsSo : Option (ℕ × Request) → Type 0
  IsSo asked = IfSome asked (λ r. P r.0 r.1)

  module _ (g : ℕ) where
    -- it is so of what is asked of the network of this number, if anything is
    abbrev IsSoHere : Option Request → Type 0
    IsSoHere o = IsSo (option_map (λ r. (g, r)) o)

    -- it is so of the event that the network of this number is asked to apply, if there is one
    abbrev IsSoOfEvent : Option Event → Type 0
    IsSoOfEvent o = IsSoHere (option_map (λ e. Apply e) o)

    two-nets : (o : Option Budgets) → AreReadAlike (AreAllowed o) IsSoHere
    two-nets None r q h k so = absurd h
    two-nets (Some b) r q h k so = subst (P g) (k.1 ∙ sym h.1) so

    two-named : (o : Option ℕ) (slices : Bytes) → AreReadAlike (IsNode o slices) IsSoHere
    two-named None slices r q h k so = absurd h
    two-named (Some u) slices r q h k so = subst (P g) (k.2 ∙ ap (λ q. Declare (Node u q)) (same-slices slices k.0 h.0 k.1 h.1) ∙ sym h.2) so

    two-nodes : (fields : List Bytes) → AreReadAlike (AsksNode fields) IsSoHere
    two-nodes (name ∷ slices ∷ []) r q h k so = two-named (word_name name) slices r q h k so
    two-nodes _ r q h k so = absurd h

    two-rosters : (o : Option (Shares × List Bytes)) → AreReadAlike (IsReserved o) IsSoHere
    two-rosters None r q h k so = absurd h
    two-rosters (Some w) r q h k so =
        subst (P g) (sym h.3) (words g k.0 h.0 (same-names _ _ _ k.1 h.1) (k.2 ∙ sym h.2) (subst (P g) k.3 so))

    two-said : (o : Option ℕ) (w : Bytes × Bytes × Bytes × Bytes × Bytes) → AreReadAlike (IsSaid o w) IsSoOfEvent
    two-said None w e f h k so = absurd h
    two-said (Some u) w e f h k so = subst (λ x. IsSoOfEvent (Some x)) (k.2 ∙ ap (λ bytes. event.Deliver u bytes) (same-bytes k.0 h.0 w.1 w.2 w.3 w.4 k.1 h.1) ∙ sym h.2) so

    two-sayings : (o : Option (Bytes × Bytes × Bytes × Bytes × Bytes)) → AreReadAlike (AsksSayOf o) IsSoOfEvent
    two-sayings None e f h k so = absurd h
    two-sayings (Some w) e f h k so = two-said (word_name w.0) w e f h k so

    two-resliced : (o : Option (ℕ × ℕ)) (slices : Bytes) → AreReadAlike (IsResliced o slices) IsSoOfEvent
    two-resliced None slices e f h k so = absurd h
    two-resliced (Some at) slices e f h k so = subst (λ x. IsSoOfEvent (Some x)) (k.2 ∙ ap (λ q. event.Reslice at.0 at.1 q) (same-slices slices k.0 h.0 k.1 h.1) ∙ sym h.2) so

    two-reslices : (o : Option (Bytes × Bytes × Bytes)) → AreReadAlike (AsksResliceOf o) IsSoOfEvent
    two-reslices None e f h k so = absurd h
    two-reslices (Some w) e f h k so = two-resliced (slot_and_node_in w.0 w.1) w.2 e f h k so

    two-events : (v : EventVerb) (fields : List Bytes) (o p : Option Event) → IsEventAsked v fields o → IsEventAsked v fields p → IsSoOfEvent p → IsSoOfEvent o
    two-events ask.Say fields o p h k so = by-reading (AsksSay fields) IsSoOfEvent tt (two-sayings (five fields)) o p h k so
    two-events ask.Reslice fields o p h k so = by-reading (AsksReslice fields) IsSoOfEvent tt (two-reslices (three fields)) o p h k so
    two-events _ fields o p h k so = subst IsSoOfEvent (k ∙ sym h) so

    two-requests : (v : Verb) (fields : List Bytes) (o p : Option Request) → IsRequest v fields o → IsRequest v fields p → IsSoHere p → IsSoHere o
    two-requests verb.Net fields o p h k so = by-reading (AreAllowed (budgets_in fields)) IsSoHere tt (two-nets (budgets_in fields)) o p h k so
    two-requests verb.Node fields o p h k so = by-reading (AsksNode fields) IsSoHere tt (two-nodes fields) o p h k so
    two-requests verb.Roster fields o p h k so = by-reading (AsksRoster fields) IsSoHere tt (two-rosters (shares_in fields)) o p h k so
    two-requests verb.Settle fields o p h k so = subst IsSoHere (k ∙ sym h) so
    two-requests (verb.Event v) fields o p h k so = subst IsSoHere (sym h.2) (two-events v fields h.0 k.0 h.1 k.1 (subst IsSoHere k.2 so))

  two-readings-of : (v : Option Verb) (number : Option ℕ) (fields : List Bytes) (o p : Option (ℕ × Request)) → IsRequestOf v number fields o → IsRequestOf v number fields p
      → IsSo p → IsSo o
  two-readings-of (Some v) (Some g) fields o p h k so = subst IsSo (sym h.2) (two-requests g v fields h.0 k.0 h.1 k.1 (subst IsSo k.2 so))
  two-readings-of _ _ fields o p h k so = subst IsSo (k ∙ sym h) so

  two-readings : (fields : List Bytes) (o p : Option (ℕ × Request)) → IsRequested fields o → IsRequested fields p → IsSo p → IsSo o
  two-readings (word ∷ number ∷ fields) o p h k so = two-readings-of (verb_in word) (word_counter number) fields o p h k so
  two-readings _ o p h k so = subst IsSo (k ∙ sym h) so

-- a line that is read as a request is not read as none
read-twice : (fields : List Bytes) (r : ℕ × Request) → IsRequested fields (Some r) → IsRequested fields None → ⊥
read-twice fields r some none =
    two-readings (λ g x. ⊥) (λ g d e n s h. h) fields (Some r) None some none tt

-- ---- no line is bad that asks for what is not

module _ (a : Allowed) (ws : Waiting) (n : Named) where
  same-rosters : (g : ℕ) (d e : Reservation) → d.names.items ≡ e.names.items → d.shares ≡ e.shares → takes ws n g (Roster e) ≡ takes ws n g (Roster d)
  same-rosters g d e names shares = rw (names, shares) refl

  words-of : (g : ℕ) → IsOfWords (IsBadRequest a ws n g)
  words-of g d e names shares bad = same-rosters g d e names shares ∙ bad

  not-bad : (fields : List Bytes) (g : ℕ) (r : Request) → IsRequested fields (Some (g, r)) → ¬ IsBadRequest a ws n g r → ¬ RefusesAsked a ws n fields
  not-bad fields g r asked fine bad = fine (two-readings (IsBadRequest a ws n) words-of fields (Some (g, r)) bad.0 asked bad.1 bad.2)

  taken : (fields : List Bytes) (us : Waiting) → IsPrepared fields n ws us → ¬ RefusesAsked a ws n fields
  taken fields us h = not-bad fields h.0 (Declare h.1) h.2 (λ bad. false≢true (sym bad ∙ h.3))

-- ---- the same of what is ordered

module _ (Q : ℕ → Order → Type 0) (words : (g : ℕ) → IsOfWords (λ r. Q g (order.Request r))) where
  abbrev IsSoOf : Option (ℕ × Order) → Type 0
  IsSoOf ordered = IfSome ordered (λ x. Q x.0 x.1)

  -- of what a line of scripts asks
  module _ (by : ℕ × Request → Option (ℕ × Asked)) (words_by : (g : ℕ) → IsOfWords (λ r. IsSoOf (option_and_then order_by (by (g, r))))) where
    of-none : (r : Option (ℕ × Request)) → IsSo (λ g x. IsSoOf (option_and_then order_by (by (g, x)))) words_by r → IsSoOf (option_and_then order_by (option_and_then by r))
    of-none None so = tt
    of-none (Some r) so = so

    to-none : (r : Option (ℕ × Request)) → IsSoOf (option_and_then order_by (option_and_then by r)) → IsSo (λ g x. IsSoOf (option_and_then order_by (by (g, x)))) words_by r
    to-none None so = tt
    to-none (Some r) so = so

    two-of-script : (fields : List Bytes) (o p : Option (ℕ × Asked)) → IsOfScript by fields o → IsOfScript by fields p → IsSoOf (option_and_then order_by p) → IsSoOf (option_and_then order_by o)
    two-of-script fields o p h k so =
        subst (λ x. IsSoOf (option_and_then order_by x)) (sym h.2)
        (of-none h.0 (two-readings (λ g x. IsSoOf (option_and_then order_by (by (g, x)))) words_by fields h.0 k.0 h.1 k.1 (to-none k.0 (subst (λ x. IsSoOf (option_and_then order_by x)) k.2 so))))

  words-asked : (g : ℕ) → IsOfWords (λ r. IsSoOf (option_and_then order_by (asked_by (g, r))))
  words-asked g d e names shares so = so

  words-for-all : (g : ℕ) → IsOfWords (λ r. IsSoOf (option_and_then order_by (for_all_by (g, r))))
  words-for-all g d e names shares so = so

  two-served : (b : Bool) (before : List Bytes) (o p : Option (ℕ × Asked)) → IsServedNet b before o → IsServedNet b before p → IsSoOf (option_and_then order_by p) → IsSoOf (option_and_then order_by o)
  two-served true before o p h k so = two-of-script asked_by words-asked before o p h k so
  two-served false before o p h k so = subst (λ x. IsSoOf (option_and_then order_by x)) (k ∙ sym h) so

  two-declared : (fields : List Bytes) (o p : Option (ℕ × Asked)) → IsNet fields o → IsNet fields p → IsSoOf (option_and_then order_by p) → IsSoOf (option_and_then order_by o)
  two-declared fields o p (inl h) (inl k) so = subst (λ x. IsSoOf (option_and_then order_by x)) (k.1 ∙ sym h.1) so
  two-declared fields o p (inl h) (inr k) so = absurd (none-behind k.0 k.1 (sym h.0 ∙ k.2))
  two-declared fields o p (inr h) (inl k) so = absurd (none-behind h.0 h.1 (sym k.0 ∙ h.2))
  two-declared fields o p (inr h) (inr k) so =
      let same : (h.0 ≡ k.0) × (h.1 ≡ k.1) = one-behind h.0 k.0 h.1 k.1 (sym h.2 ∙ k.2) in
      two-served (is_word h.1 (codes "served")) h.0 o p h.3
      (subst (λ (x : List Bytes × Bytes). IsServedNet (is_word x.1 (codes "served")) x.0 p) (λ i. (sym same.0 i, sym same.1 i)) k.3) so

  two-for-all : (fields : List Bytes) (o p : Option (ℕ × Asked)) → IsForAll fields o → IsForAll fields p → IsSoOf (option_and_then order_by p) → IsSoOf (option_and_then order_by o)
  two-for-all (w ∷ g ∷ star ∷ more) o p h k so = two-of-script for_all_by words-for-all (w ∷ g ∷ codes "A" ∷ more) o p h k so
  two-for-all _ o p h k so = subst (λ x. IsSoOf (option_and_then order_by x)) (k ∙ sym h) so

  two-asked-as : (f : Form) (fields : List Bytes) (o p : Option (ℕ × Asked)) → IsAskedAs f fields o → IsAskedAs f fields p → IsSoOf (option_and_then order_by p) → IsSoOf (option_and_then order_by o)
  two-asked-as form.Net fields o p h k so = two-declared fields o p h k so
  two-asked-as form.ForAll fields o p h k so = two-for-all fields o p h k so
  two-asked-as form.Script fields o p h k so = two-of-script asked_by words-asked fields o p h k so
  two-asked-as form.Drop fields o p h k so = subst (λ x. IsSoOf (option_and_then order_by x)) (k ∙ sym h) so
  two-asked-as form.Left fields o p h k so = subst (λ x. IsSoOf (option_and_then order_by x)) (k ∙ sym h) so
  two-asked-as form.Show fields o p h k so = subst (λ x. IsSoOf (option_and_then order_by x)) (k ∙ sym h) so

  two-orders-by : (fields : List Bytes) (r s : Option (ℕ × Request)) (o p : Option (ℕ × Order)) → IsRequested fields r → IsRequested fields s → IsOrderedBy r fields o → IsOrderedBy s fields p → IsSoOf p → IsSoOf o
  two-orders-by fields (Some r) (Some s) o p h k e f so =
      subst IsSoOf (sym e) (two-readings (λ g x. Q g (order.Request x)) words fields (Some r) (Some s) h k (subst IsSoOf f so))
  two-orders-by fields (Some r) None o p h k e f so = absurd (read-twice fields r h k)
  two-orders-by fields None (Some s) o p h k e f so = absurd (read-twice fields s k h)
  two-orders-by fields None None o p h k e f so = subst IsSoOf (sym e.2) (two-asked-as (form_in fields) fields e.0 f.0 e.1 f.1 (subst IsSoOf f.2 so))

  pub two-orders : (fields : List Bytes) (o p : Option (ℕ × Order)) → IsLineOrder fields o → IsLineOrder fields p → IsSoOf p → IsSoOf o
  two-orders fields o p h k so = two-orders-by fields h.0 k.0 o p h.1 k.1 h.2 k.2 so

module _ (ws : Waiting) (n : Named) where
  words-of-orders : (g : ℕ) → IsOfWords (λ r. IsBadOrder ws n g (order.Request r))
  words-of-orders g d e names shares bad = same-rosters (record { settling = true; closing = true }) ws n g d e names shares ∙ bad

  -- no line is bad that orders what is not
  not-bad-order : (fields : List Bytes) (g : ℕ) (o : Order) → IsLineOrder fields (Some (g, o)) → ¬ IsBadOrder ws n g o → ¬ RefusesOrder ws n fields
  not-bad-order fields g o ordered fine bad = fine (two-orders (IsBadOrder ws n) words-of-orders fields (Some (g, o)) bad.0 ordered bad.1 bad.2)

-- ---- what is told is not bad

named-has-nodes : {S : Type 0} (joins : Joins S) (g : ℕ) (o : Option Outlined) (ws us : Waiting) (old new : S) → NetworkIsNamedAt joins g o ws us old new → ¬ IsBare o
named-has-nodes joins g None ws us old new h bare = bare
named-has-nodes joins g (Some d) ws us old new h bare = h.1.1.some_nodes bare

begun-has-nodes : (g : ℕ) (old new : Hosting) → IsNetworkBegun g old new → ¬ HasNoNode old.waiting g
begun-has-nodes g old new begun =
    named-has-nodes logs_joined g (waiting_at old.waiting g) old.waiting new.waiting old.logs new.logs begun.0

declared-has-nodes : (g : ℕ) (old new : Submitting) → IsNetworkDeclared g old new → ¬ HasNoNode old.waiting g
declared-has-nodes g old new named = named-has-nodes declared_once g (waiting_at old.waiting g) old.waiting new.waiting old.history new.history named.0

-- what may be asked of a network that has nodes is not bad
not-bad-to-ask : (b : Bool) (ws : Waiting) (g : ℕ) → b ≡ true → ¬ HasNoNode ws g → ¬ IsBadToAsk b ws g
not-bad-to-ask true ws g is nodes bad = nodes bad
not-bad-to-ask false ws g is nodes bad = false≢true is

-- what is done is no bad order
done-is-not-bad : (g : ℕ) (o : Order) (old new : Hosting) (outcome : Outcome) → Does g o old outcome new → ¬ IsBadOrder old.waiting old.named g o
done-is-not-bad g (order.Request (Declare d)) old new Declared h bad = false≢true (sym bad ∙ h.taken)
done-is-not-bad g (order.Request (Apply e)) old new (Answer r) h bad = not-bad-to-ask (may_apply old.named g e) old.waiting g h.0 (begun-has-nodes g old h.1.0 h.1.1) bad
done-is-not-bad g (order.Request (Settle i)) old new (Settled j ended) h bad =
    not-bad-to-ask (not (is_in old.named.served g)) old.waiting g (ap not h.0) (begun-has-nodes g old h.1.0 h.1.1) bad
done-is-not-bad g (order.Serve b) old new Declared h bad = false≢true (sym bad ∙ h.taken)
done-is-not-bad g (order.ForAll bytes) old new (Answers rs) h bad =
    not-bad-to-ask (not (is_unserved old.waiting old.named g)) old.waiting g (ap not h.0) (begun-has-nodes g old h.1.0 h.1.1) bad
done-is-not-bad g order.Drop old new (Answer r) h bad = false≢true (sym h.0 ∙ bad)
done-is-not-bad g o old new outcome h bad = absurd h

carried-out-is-not-bad : (g : ℕ) (fields : List Bytes) (old new : Hosting) (outcome : Outcome) → IsLineCarriedOut g fields old outcome new → ¬ RefusesLine old fields
carried-out-is-not-bad g fields old new outcome (o, ordered, done) =
    not-bad-order old.waiting old.named fields g o ordered (done-is-not-bad g o old new outcome done)

-- a law: no line of a script of networks is both bad and told
pub bad_lines_tell_nothing : BadLinesAreUntold Tells RefusesLine
bad_lines_tell_nothing old new fields printed bad (g, outcome, done, said) = carried-out-is-not-bad g fields old new outcome done bad

-- a law: no line of a script that prints nothing is both bad and told
pub bad_lines_tell_nothing_unprinted : BadLinesAreUntold TellsUnprinted RefusesUnprinted
bad_lines_tell_nothing_unprinted old new fields printed bad (g, outcome, done, none, memory, trace) =
    carried-out-is-not-bad g fields old.hosting new.hosting outcome done bad

-- a law: no line is both bad and submitted
pub bad_lines_submit_nothing : BadLinesAreUntold Submits RefusesToSubmit
bad_lines_submit_nothing old new fields printed bad (submits_declaration h closing named history) = taken (allowed_to_submit old.closing) old.waiting old.named fields new.waiting h bad
bad_lines_submit_nothing old new fields printed bad (submits g e asked may h) =
    not-bad (allowed_to_submit old.closing) old.waiting old.named fields g (Apply e) asked
    (not-bad-to-ask (may_submit old e) old.waiting g may (declared-has-nodes g old h.0 h.1)) bad
