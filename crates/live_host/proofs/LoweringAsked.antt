-- The fields of lines that declare something, and what is declared once they are lowered.
use Rattle.std.specs.Prelude.{◌≡◌, ◌⊎◌, ◌++◌, ◌∷◌, [], ℕ, Bool, true, false, List, codes, nat_eq, Option, Some, None, option_and_then, option_map, unwrap_or, if◌then◌else◌}
use Rattle.std.specs.Map.{lookup}
use Rattle.std.proofs.Common.{◌∙◌, refl, sym, ap, subst, cond, inl, inr}
use lib.Pointwise.{bytes_decides, pointwise}
use Rattle.scp_types.specs.declared.event.Event.TheVariants as event
use Rattle.scp_spec.specs.Networks.{Budgets}
use Rattle.scp_spec.specs.Rosters.{Shares}
use Rattle.line_script.specs.Script.{Bytes}
use Rattle.line_script.specs.Names.{word_name}
use Rattle.line_script.specs.Words.{word_counter}
use Rattle.line_request.specs.Asking.{IsAskedAs, IsAskedOf, IsForAll, IsOfScript, IsServedNet, asked_by, dropped_in, for_all_by, left_in, shown_in}
use Rattle.line_request.specs.Forms.{form_by_star, form_by_word, form_in, is_for_all, is_word}
use Rattle.line_request.specs.Lines.{meaning_in, slot_in, verb_in, verbs}
use Rattle.line_request.specs.Requests.{AreAllowed, IsNode, IsRequest, IsRequestOf, IsRequested, IsReserved, budgets_in, shares_in}
use Rattle.line_request.specs.declared.ask.Ask.{Ask}
use Rattle.line_request.specs.declared.ask.Ask.TheVariants as ask
use Rattle.line_request.specs.declared.form.Form.{Form}
use Rattle.line_request.specs.declared.form.Form.TheVariants as form
use Rattle.line_request.specs.declared.request.Declaration.{Declaration}
use Rattle.line_request.specs.declared.request.Declaration.TheVariants as declaration
use Rattle.line_request.specs.declared.request.Request.{Request}
use Rattle.line_request.specs.declared.request.Request.TheVariants as request
use Rattle.line_request.specs.declared.verbs.Verb.{Verb}
use Rattle.line_request.specs.declared.verbs.Verb.TheVariants as verb

-- ---- words
pub same-word : (a b : Bytes) → pointwise nat_eq a b ≡ true → a ≡ b
same-word a b e = (bytes_decides a b).0 e

-- each of these words has what is said of its meaning
abbrev AllSay : {X : Type 0} → (X → Bytes → Type 0) → List (Bytes × X) → Type 0
AllSay says [] = Unit {0}
AllSay says (e ∷ es) = says e.1 e.0 × AllSay says es

meaning-says : {X : Type 0} (says : X → Bytes → Type 0) (table : List (Bytes × X)) (word : Bytes) (x : X)
    → AllSay says table → meaning_in table word ≡ Some x → says x word
meaning-says says [] word x all means = cc
meaning-says {X} says (e ∷ es) word x all means =
    step (pointwise nat_eq word e.0) refl (meaning-says says es word x all.1) means
  where
    step : (b : Bool) → pointwise nat_eq word e.0 ≡ b → (lookup (λ known. pointwise nat_eq word known) es ≡ Some x → says x word)
        → cond b (Some e.1) (lookup (λ known. pointwise nat_eq word known) es) ≡ Some x → says x word
    step true is rest here =
        let same : e.1 ≡ x = cc in
        subst (says x) (sym (same-word word e.0 is)) (subst (λ y. says y e.0) same all.0)
    step false is rest others = rest others

-- the word of the lines that declare something
abbrev pub VerbWord : Verb → Bytes → Type 0
VerbWord verb.Net word = word ≡ codes "net"
VerbWord verb.Node word = word ≡ codes "node"
VerbWord verb.Roster word = word ≡ codes "roster"
VerbWord verb.Settle word = Unit {0}
VerbWord (verb.Event v) word = Unit {0}

verb-word : (word : Bytes) (v : Verb) → verb_in word ≡ Some v → VerbWord v word
verb-word word v means =
    meaning-says VerbWord verbs word v (refl, (refl, (refl, (tt, (tt, (tt, (tt, (tt, (tt, (tt, (tt, (tt, (tt, tt))))))))))))) means

abbrev FormWord : Form → Bytes → Type 0
FormWord form.Net word = word ≡ codes "net"
FormWord form.ForAll word = Unit {0}
FormWord form.Drop word = Unit {0}
FormWord form.Left word = Unit {0}
FormWord form.Show word = Unit {0}
FormWord form.Script word = Unit {0}

-- by their star, no line declares a network
no-net-by-star : (fields : List Bytes) → form_by_star fields ≡ form.Net → ⊥
no-net-by-star [] is = cc
no-net-by-star (word ∷ []) is = cc
no-net-by-star (word ∷ number ∷ []) is = cc
no-net-by-star (word ∷ number ∷ star ∷ fields) is = step (is_for_all word star) is
  where
    step : (b : Bool) → (if b then form.ForAll else form.Script) ≡ form.Net → ⊥
    step true e = cc
    step false e = cc

pub net-form : (word : Bytes) (fields : List Bytes) → form_in (word ∷ fields) ≡ form.Net → word ≡ codes "net"
net-form word fields is = step (form_by_word word) refl is
  where
    step : (o : Option Form) → form_by_word word ≡ o → unwrap_or o (form_by_star (word ∷ fields)) ≡ form.Net
        → word ≡ codes "net"
    step None none e = absurd (no-net-by-star (word ∷ fields) e)
    step (Some f) means e =
        meaning-says FormWord
        ((codes "net", form.Net) ∷ (codes "drop", form.Drop) ∷ (codes "left", form.Left) ∷ (codes "show", form.Show) ∷ []) word
        form.Net (refl, (tt, (tt, (tt, tt)))) (means ∙ ap Some e)

-- ---- what is asked for
-- the lines of a kind that ask for what is declared
abbrev pub kind_of : Declaration → Verb
kind_of (declaration.Net b) = verb.Net
kind_of (declaration.Node u q) = verb.Node
kind_of (declaration.Roster r) = verb.Roster

module _ (g : ℕ) (x : Declaration) where
  abbrev pub asked : Option (ℕ × Ask)
  asked = Some (g, ask.Declare x)

  abbrev pub requested : Option (ℕ × Request)
  requested = Some (g, request.Declare x)

  declared-once : (h : ℕ) (y : Declaration) → asked ≡ Some (h, ask.Declare y) → Some (h, request.Declare y) ≡ requested
  declared-once h y e =
      let pair : ◌≡◌ {A = ℕ × Ask} (g, ask.Declare x) (h, ask.Declare y) = cc in
      let number : g ≡ h = ap (λ p. p.0) pair in
      let same : ask.Declare x ≡ ask.Declare y = ap (λ p. p.1) pair in
      let what : x ≡ y = cc in
      cc

  other-asked : (h : ℕ) (a : Ask) → asked ≡ Some (h, a) → (ask.Declare x ≡ a → ⊥) → ⊥
  other-asked h a e apart = let pair : ◌≡◌ {A = ℕ × Ask} (g, ask.Declare x) (h, a) = cc in apart (ap (λ p. p.1) pair)

  by-script : (r : Option (ℕ × Request)) → asked ≡ option_and_then asked_by r → r ≡ requested
  by-script None e = cc
  by-script (Some (h, request.Declare y)) e = declared-once h y e
  by-script (Some (h, request.Settle i)) e = cc
  by-script (Some (h, request.Apply (event.Hear i u from kind k))) e = cc
  by-script (Some (h, request.Apply e')) e = absurd (other-asked h (ask.Serve e') e (λ is. cc))

  not-for-all : (r : Option (ℕ × Request)) → asked ≡ option_and_then for_all_by r → ⊥
  not-for-all None e = cc
  not-for-all (Some (h, request.Declare y)) e = cc
  not-for-all (Some (h, request.Settle i)) e = cc
  not-for-all (Some (h, request.Apply (event.Deliver u bytes))) e = other-asked h (ask.ForAll bytes) e (λ is. cc)
  not-for-all (Some (h, request.Apply e')) e = cc

  not-of : (f : ℕ → ℕ × Ask) (o : Option ℕ) → ((h : ℕ) → ask.Declare x ≡ (f h).1 → ⊥) → asked ≡ option_map f o → ⊥
  not-of f None apart e = cc
  not-of f (Some h) apart e = let pair : ◌≡◌ {A = ℕ × Ask} (g, ask.Declare x) (f h) = cc in apart h (ap (λ p. p.1) pair)

  not-dropped : (fields : List Bytes) → asked ≡ dropped_in fields → ⊥
  not-dropped (w ∷ number ∷ []) e = not-of (λ h. (h, ask.Drop)) (word_counter number) (λ h is. cc) e
  not-dropped [] e = cc
  not-dropped (w ∷ []) e = cc
  not-dropped (w ∷ a ∷ b ∷ fields) e = cc

  not-left : (fields : List Bytes) → asked ≡ left_in fields → ⊥
  not-left (w ∷ number ∷ []) e = not-of (λ h. (h, ask.Left)) (word_counter number) (λ h is. cc) e
  not-left [] e = cc
  not-left (w ∷ []) e = cc
  not-left (w ∷ a ∷ b ∷ fields) e = cc

  not-shown-at : (h : Option ℕ) (i : Option ℕ) (u : Option ℕ)
      → asked ≡ option_and_then (λ k. option_and_then (λ j. option_map (λ v. (k, ask.Show j v)) u) i) h → ⊥
  not-shown-at None i u e = cc
  not-shown-at (Some h) None u e = cc
  not-shown-at (Some h) (Some i) u e = not-of (λ v. (h, ask.Show i v)) u (λ v is. cc) e

  not-shown : (fields : List Bytes) → asked ≡ shown_in fields → ⊥
  not-shown (w ∷ number ∷ slot ∷ node ∷ []) e = not-shown-at (word_counter number) (slot_in slot) (word_name node) e
  not-shown [] e = cc
  not-shown (a ∷ []) e = cc
  not-shown (a ∷ b ∷ []) e = cc
  not-shown (a ∷ b ∷ c ∷ []) e = cc
  not-shown (a ∷ b ∷ c ∷ d ∷ f ∷ fields) e = cc

  script-asks : (fields : List Bytes) → IsOfScript asked_by fields asked → IsRequested fields requested
  script-asks fields (r, is, e) = subst (IsRequested fields) (by-script r e) is

  -- the line is that of scripts, with the word `served` behind it where it declares a network
  abbrev pub IsScriptOf : List Bytes → Type 0
  IsScriptOf fields =
      ((before : List Bytes) × (form_in fields ≡ form.Net) × (fields ≡ before ++ codes "served" ∷ [])
      × IsRequested before requested)
      ⊎ ((form_in fields ≡ form.Net → ⊥) × IsRequested fields requested)

  net-asks : (fields before : List Bytes) (last : Bytes) → form_in fields ≡ form.Net → fields ≡ before ++ last ∷ []
      → IsServedNet (is_word last (codes "served")) before asked → IsScriptOf fields
  net-asks fields before last is e served = step (is_word last (codes "served")) refl served
    where
      step : (b : Bool) → is_word last (codes "served") ≡ b → IsServedNet b before asked → IsScriptOf fields
      step true same h =
          inl (before, is, e ∙ ap (λ w. before ++ w ∷ []) (same-word last (codes "served") same), script-asks before h)
      step false same h = cc

  pub asks-script : (fields : List Bytes) → IsAskedOf fields asked → IsScriptOf fields
  asks-script fields h = step (form_in fields) refl h
    where
      step : (f : Form) → form_in fields ≡ f → IsAskedAs f fields asked → IsScriptOf fields
      step form.Net is (inl none) = let no = none.1 in cc
      step form.Net is (inr (before, last, e, served)) = net-asks fields before last is e served
      step form.ForAll is h = absurd (for-all fields h)
        where
          for-all : (fs : List Bytes) → IsForAll fs asked → ⊥
          for-all (w ∷ n ∷ star ∷ more) (r, is, e) = not-for-all r e
          for-all [] e = cc
          for-all (a ∷ []) e = cc
          for-all (a ∷ b ∷ []) e = cc
      step form.Drop is h = absurd (not-dropped fields h)
      step form.Left is h = absurd (not-left fields h)
      step form.Show is h = absurd (not-shown fields h)
      step form.Script is h = inr (λ net. cc, script-asks fields h)

  -- ---- the parts of a request
  pub record HasParts (fields : List Bytes) : Type 0 where
    pub word : Bytes
    pub number : Bytes
    pub rest : List Bytes
    pub kind : Verb
    pub are : fields ≡ word ∷ number ∷ rest
    pub means : verb_in word ≡ Some kind
    pub is_number : word_counter number ≡ Some g
    pub asks : IsRequest kind rest (Some (request.Declare x))

  parts-of : (word number : Bytes) (rest : List Bytes) (v : Option Verb) (n : Option ℕ) → verb_in word ≡ v
      → word_counter number ≡ n → IsRequestOf v n rest requested → HasParts (word ∷ number ∷ rest)
  parts-of word number rest None n means is h = cc
  parts-of word number rest (Some v) None means is h = cc
  parts-of word number rest (Some v) (Some h) means is (None, asks, e) = cc
  parts-of word number rest (Some v) (Some h) means is (Some y, asks, e) =
      let pair : ◌≡◌ {A = ℕ × Request} (g, request.Declare x) (h, y) = cc in
      let same : g ≡ h = ap (λ p. p.0) pair in
      let what : request.Declare x ≡ y = ap (λ p. p.1) pair in
      record {
        word = word;
        number = number;
        rest = rest;
        kind = v;
        are = refl;
        means = means;
        is_number = is ∙ ap Some (sym same);
        asks = subst (λ r. IsRequest v rest (Some r)) (sym what) asks;
      }

  pub has-parts : (fields : List Bytes) → IsRequested fields requested → HasParts fields
  has-parts (word ∷ number ∷ rest) h = parts-of word number rest (verb_in word) (word_counter number) refl refl h
  has-parts [] h = cc
  has-parts (word ∷ []) h = cc

  -- ---- the kind of the line
  kind-from : (y : Declaration) → request.Declare x ≡ request.Declare y → kind_of y ≡ kind_of x
  kind-from y e = let same : y ≡ x = cc in ap kind_of same

  kind-is : (kind : Verb) (rest : List Bytes) → IsRequest kind rest (Some (request.Declare x)) → kind ≡ kind_of x
  kind-is verb.Net rest h = step (budgets_in rest) h
    where
      step : (o : Option Budgets) → AreAllowed o (request.Declare x) → verb.Net ≡ kind_of x
      step None h = absurd h
      step (Some b) h = kind-from (declaration.Net b) h.1
  kind-is verb.Node [] h = absurd h
  kind-is verb.Node (a ∷ []) h = absurd h
  kind-is verb.Node (name ∷ slices ∷ []) h = step (word_name name) h
    where
      step : (o : Option ℕ) → IsNode o slices (request.Declare x) → verb.Node ≡ kind_of x
      step None h = absurd h
      step (Some u) h = kind-from (declaration.Node u h.0) h.2
  kind-is verb.Node (a ∷ b ∷ c ∷ rest) h = absurd h
  kind-is verb.Roster rest h = step (shares_in rest) h
    where
      step : (o : Option (Shares × List Bytes)) → IsReserved o (request.Declare x) → verb.Roster ≡ kind_of x
      step None h = absurd h
      step (Some w) h = kind-from (declaration.Roster h.0) h.3
  kind-is verb.Settle [] h = cc
  kind-is verb.Settle (i ∷ []) h = step (slot_in i) h
    where
      step : (o : Option ℕ) → Some (request.Declare x) ≡ option_map (λ slot. request.Settle slot) o → verb.Settle ≡ kind_of x
      step None h = cc
      step (Some i) h = cc
  kind-is verb.Settle (a ∷ b ∷ rest) h = cc
  kind-is (verb.Event v) rest (None, is, e) = cc
  kind-is (verb.Event v) rest (Some y, is, e) = cc

  -- ---- what its parts say
  pub its-request : {fields : List Bytes} (parts : HasParts fields)
      → IsRequest (kind_of x) parts.rest (Some (request.Declare x))
  its-request parts =
      subst (λ v. IsRequest v parts.rest (Some (request.Declare x))) (kind-is parts.kind parts.rest parts.asks) parts.asks

  pub its-word : {fields : List Bytes} (parts : HasParts fields) → VerbWord (kind_of x) parts.word
  its-word parts = verb-word parts.word (kind_of x) (parts.means ∙ ap Some (kind-is parts.kind parts.rest parts.asks))

  pub its-fields : {fields : List Bytes} (parts : HasParts fields) (name : Bytes) → parts.word ≡ name
      → fields ≡ name ∷ parts.number ∷ parts.rest
  its-fields parts name is = parts.are ∙ ap (λ w. w ∷ parts.number ∷ parts.rest) is

  -- with the word `served` behind it
  pub its-fields-served : {before : List Bytes} (fields : List Bytes) (parts : HasParts before) (name : Bytes)
      → parts.word ≡ name → fields ≡ before ++ codes "served" ∷ []
      → fields ≡ name ∷ parts.number ∷ parts.rest ++ codes "served" ∷ []
  its-fields-served fields parts name is whole =
      whole ∙ ap (λ fs. fs ++ codes "served" ∷ []) (its-fields parts name is)
