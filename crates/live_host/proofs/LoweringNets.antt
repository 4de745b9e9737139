-- Lines that declare networks: how they are spelled, and what is declared once they are lowered.
use Rattle.std.specs.Prelude.{◌≡◌, ◌^◌, ◌++◌, ◌∷◌, [], ℕ, Bool, true, false, List, codes, nat_eq, Option, Some, None, option_and_then, option_map, if◌then◌else◌}
use Rattle.std.proofs.Common.{◌∙◌, refl, sym, ap, subst, arith, inl, inr}
use lib.Pointwise.{pointwise}
use Rattle.scp_spec.specs.Networks.{Budgets}
use Rattle.host_config.specs.Budgets.{AreBudgets}
use Rattle.line_script.specs.Script.{AreFields, Bytes}
use Rattle.line_script.specs.Words.{word_counter, word_number}
use Rattle.live_feed.specs.Lasting.{lowered, lowered_word, lowered_words}
use Rattle.live_feed.specs.declared.answering.Drawn.{Drawn}
use Rattle.line_request.specs.Asking.{IsAskedOf}
use Rattle.line_request.specs.Forms.{form_in}
use Rattle.line_request.specs.Requests.{AreAllowed, IsRequestOf, budgets_in, budgets_of, number_behind}
use Rattle.line_request.specs.declared.ask.Ask.TheVariants as ask
use Rattle.line_request.specs.declared.form.Form.TheVariants as form
use Rattle.line_request.specs.declared.request.Declaration.TheVariants as declaration
use Rattle.line_request.specs.declared.request.Request.TheVariants as request
use Rattle.line_request.specs.declared.verbs.Verb.TheVariants as verb
use Rattle.live_host.specs.Lowering.{AsksToDeclare, less_budgets}
use Rattle.live_host.proofs.LoweringAsked.{HasParts, IsScriptOf, asks-script, has-parts, its-fields, its-fields-served, its-request, its-word, same-word}
use Rattle.live_host.proofs.LoweringWords.{lowered-fields-are, lowered-number, same-number}

-- ---- options
-- what comes of an option comes of what it has
pub some-then : {A B : Type 0} (f : A → Option B) (o : Option A) (y : B) → option_and_then f o ≡ Some y
    → (x : A) × (o ≡ Some x) × (f x ≡ Some y)
some-then f None y e = cc
some-then f (Some x) y e = (x, refl, e)

-- ---- numbers behind their words
pub record IsBehind (name : Bytes) (n : ℕ) (fields more : List Bytes) : Type 0 where
  pub number : Bytes
  pub are : fields ≡ name ∷ number ∷ more
  pub is : word_number (2 ^ 64) number ≡ Some n

pub is-behind : (name : Bytes) (n : ℕ) (fields more : List Bytes) → number_behind name fields ≡ Some (n, more)
    → IsBehind name n fields more
is-behind name n [] more e = cc
is-behind name n (a ∷ []) more e = cc
is-behind name n (word ∷ number ∷ others) more e = step (pointwise nat_eq word name) (word_number (2 ^ 64) number) refl refl e
  where
    step : (b : Bool) (o : Option ℕ) → pointwise nat_eq word name ≡ b → word_number (2 ^ 64) number ≡ o
        → (if b then option_map {U = ℕ × List Bytes} (λ m. (m, others)) o else None) ≡ Some (n, more)
        → IsBehind name n (word ∷ number ∷ others) more
    step true None same is e = cc
    step true (Some m) same is e =
        let pair : ◌≡◌ {A = ℕ × List Bytes} (m, others) (n, more) = cc in
        let left : others ≡ more = ap (λ p. p.1) pair in
        let word-is = same-word word name same in
        record { number = number; are = cc; is = is ∙ ap (λ p. Some p.0) pair }
    step false o same is e = cc

-- ---- budgets
-- the fields behind the number of the network
abbrev budget-fields : Bytes → Bytes → Bytes → List Bytes
budget-fields events bytes slots =
    codes "events" ∷ events ∷ codes "bytes" ∷ bytes ∷ codes "slots" ∷ slots ∷ []

record SpellsBudgets (b : Budgets) (fields : List Bytes) : Type 0 where
  events : Bytes
  bytes : Bytes
  slots : Bytes
  are : fields ≡ budget-fields events bytes slots
  is_events : word_number (2 ^ 64) events ≡ Some b.events
  is_bytes : word_number (2 ^ 64) bytes ≡ Some b.bytes
  is_slots : word_number (2 ^ 64) slots ≡ Some b.slots

budgets-spelled : (fields : List Bytes) (b : Budgets) → budgets_in fields ≡ Some b → SpellsBudgets b fields
budgets-spelled fields b read =
    let one = some-then _ (number_behind (codes "events") fields) b read in
    let two = some-then _ (number_behind (codes "bytes") one.0.1) b one.2 in
    let three = some-then _ (number_behind (codes "slots") two.0.1) b two.2 in
    let events = is-behind (codes "events") one.0.0 fields one.0.1 one.1 in
    let bytes = is-behind (codes "bytes") two.0.0 one.0.1 two.0.1 two.1 in
    let slots = is-behind (codes "slots") three.0.0 two.0.1 three.0.1 three.1 in
    last three.0.1 one.0.0 two.0.0 three.0.0 three.2 events bytes slots
  where
    last : {after behind : List Bytes} (more : List Bytes) (e y s : ℕ) → budgets_of e y (s, more) ≡ Some b
        → IsBehind (codes "events") e fields after → IsBehind (codes "bytes") y after behind
        → IsBehind (codes "slots") s behind more → SpellsBudgets b fields
    last (field ∷ more) e y s of events bytes slots = cc
    last [] e y s of events bytes slots =
        let same : ◌≡◌ {A = Budgets} (record { events = e; bytes = y; slots = s }) b = cc in record {
          events = events.number;
          bytes = bytes.number;
          slots = slots.number;
          are = events.are ∙ ap (λ fs. codes "events" ∷ events.number ∷ fs) (bytes.are ∙ ap (λ fs. codes "bytes" ∷ bytes.number ∷ fs) slots.are);
          is_events = events.is ∙ ap (λ x. Some x.events) same;
          is_bytes = bytes.is ∙ ap (λ x. Some x.bytes) same;
          is_slots = slots.is ∙ ap (λ x. Some x.slots) same;
        }

budgets-read : (events bytes slots : Bytes) (b : Budgets) → word_number (2 ^ 64) events ≡ Some b.events
    → word_number (2 ^ 64) bytes ≡ Some b.bytes → word_number (2 ^ 64) slots ≡ Some b.slots
    → budgets_in (budget-fields events bytes slots) ≡ Some b
budgets-read events bytes slots b e y s = rw (e, y, s) refl

-- ---- lines that declare a network
abbrev net-fields : Bytes → List Bytes → List Bytes
net-fields number budgets = codes "net" ∷ number ∷ budgets ++ codes "served" ∷ []

record SpellsNet (g : ℕ) (b : Budgets) (fields : List Bytes) : Type 0 where
  number : Bytes
  is_number : word_counter number ≡ Some g
  budgets : List Bytes
  spelled : SpellsBudgets b budgets
  allowed : AreBudgets b.events b.bytes b.slots
  are : fields ≡ net-fields number budgets

no-other-form : {g : ℕ} {b : Budgets} (fields : List Bytes) → (form_in fields ≡ form.Net → ⊥)
    → HasParts g (declaration.Net b) fields → ⊥
no-other-form {g} {b} fields other parts =
    other (ap form_in (its-fields g (declaration.Net b) parts (codes "net") (its-word g (declaration.Net b) parts)))

net-spelled : (g : ℕ) (b : Budgets) (fields : List Bytes) → IsAskedOf fields (Some (g, ask.Declare (declaration.Net b)))
    → SpellsNet g b fields
net-spelled g b fields asked = step (asks-script g (declaration.Net b) fields asked)
  where
    allowed : (rest : List Bytes) (o : Option Budgets) → budgets_in rest ≡ o
        → AreAllowed o (request.Declare (declaration.Net b)) → SpellsBudgets b rest × AreBudgets b.events b.bytes b.slots
    allowed rest None is h = absurd h
    allowed rest (Some c) is h =
        let same : c ≡ b = cc in
        (budgets-spelled rest b (is ∙ ap Some same), subst (λ x. AreBudgets x.events x.bytes x.slots) same h.0)

    step : IsScriptOf g (declaration.Net b) fields → SpellsNet g b fields
    step (inl (before, is, e, h)) =
        let parts = has-parts g (declaration.Net b) before h in
        let budgets = allowed parts.rest (budgets_in parts.rest) refl (its-request g (declaration.Net b) parts) in record {
          number = parts.number;
          is_number = parts.is_number;
          budgets = parts.rest;
          spelled = budgets.0;
          allowed = budgets.1;
          are = its-fields-served g (declaration.Net b) fields parts (codes "net") (its-word g (declaration.Net b) parts) e;
        }
    step (inr (other, h)) = absurd (no-other-form fields other (has-parts g (declaration.Net b) fields h))

net-asked : (g : ℕ) (b : Budgets) (number events bytes slots : Bytes) → word_counter number ≡ Some g
    → word_number (2 ^ 64) events ≡ Some b.events → word_number (2 ^ 64) bytes ≡ Some b.bytes
    → word_number (2 ^ 64) slots ≡ Some b.slots → AreBudgets b.events b.bytes b.slots
    → IsAskedOf (net-fields number (budget-fields events bytes slots)) (Some (g, ask.Declare (declaration.Net b)))
net-asked g b number events bytes slots is e y s allowed =
    let asks : AreAllowed (budgets_in (budget-fields events bytes slots)) (request.Declare (declaration.Net b)) =
    subst (λ o. AreAllowed o (request.Declare (declaration.Net b))) (sym (budgets-read events bytes slots b e y s))
    (allowed, refl) in
    let of : IsRequestOf (Some verb.Net) (word_counter number) (budget-fields events bytes slots)
    (Some (g, request.Declare (declaration.Net b))) =
    subst (λ o. IsRequestOf (Some verb.Net) o (budget-fields events bytes slots) (Some (g, request.Declare (declaration.Net b))))
    (sym is) (Some (request.Declare (declaration.Net b)), asks, refl) in
    inr (
      codes "net" ∷ number ∷ budget-fields events bytes slots,
      codes "served",
      refl,
      (Some (g, request.Declare (declaration.Net b)), of, refl),
    )

pub lowered-net : (d : Drawn) (line : Bytes) (g : ℕ) (b : Budgets) → AsksToDeclare line g (declaration.Net b)
    → AsksToDeclare (lowered d line) g (declaration.Net (less_budgets d b))
unfolding lowered
lowered-net d line g b (fields, are, asked) =
    let net = net-spelled g b fields asked in
    let spelled = net.spelled in
    let whole : fields ≡ net-fields net.number (budget-fields spelled.events spelled.bytes spelled.slots) =
    net.are ∙ ap (net-fields net.number) spelled.are in
    let of = subst (AreFields line) whole are in
    let allowed = net.allowed in
    let few-events = allowed.few_events in
    let few-bytes = allowed.few_bytes in
    let same : lowered d line ≡ lowered_words (0 ∷ 0 ∷ 0 ∷ d.events ∷ 0 ∷ d.bytes ∷ []) line =
    subst (λ t. lowered d t ≡ lowered_words (0 ∷ 0 ∷ 0 ∷ d.events ∷ 0 ∷ d.bytes ∷ []) t) of.0 refl in
    let after : List Bytes =
    net-fields (lowered_word 0 net.number)
    (budget-fields (lowered_word d.events spelled.events) (lowered_word d.bytes spelled.bytes) spelled.slots) in
    let less = lowered-fields-are (0 ∷ 0 ∷ 0 ∷ d.events ∷ 0 ∷ d.bytes ∷ []) line
    (net-fields net.number (budget-fields spelled.events spelled.bytes spelled.slots)) of in (
      after,
      subst (λ t. AreFields t after) (sym same) less,
      net-asked g (less_budgets d b) (lowered_word 0 net.number) (lowered_word d.events spelled.events)
          (lowered_word d.bytes spelled.bytes) spelled.slots (same-number (2 ^ 32) g net.number (omega arith) net.is_number)
          (lowered-number d.events (2 ^ 64) b.events spelled.events (omega arith) spelled.is_events)
          (lowered-number d.bytes (2 ^ 64) b.bytes spelled.bytes (omega arith) spelled.is_bytes) spelled.is_slots
          (record {
            few_events = omega (arith, few-events);
            few_bytes = omega (arith, few-bytes);
            some_slots = allowed.some_slots;
            few_slots = allowed.few_slots;
          }),
    )
