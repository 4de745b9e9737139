-- A line that begins with `net` asks for nothing but that a network is declared.
use Rattle.std.specs.Prelude.{◌≡◌, ◌++◌, ℕ, Bool, true, false, List, [], ◌∷◌, codes, Option, Some, None, option_and_then}
use Rattle.std.proofs.Common.{◌∙◌, inl, inr, sym, ap, subst}
use Rattle.line_script.specs.Script.{Bytes}
use Rattle.line_script.specs.Words.{word_counter}
use Rattle.scp_spec.specs.Networks.{Budgets}
use Rattle.line_request.specs.Asking.{IsAskedAs, IsAskedOf, IsNet, IsServedNet, asked_by}
use Rattle.line_request.specs.Forms.{form_in, is_word}
use Rattle.line_request.specs.Lines.{verb_in}
use Rattle.line_request.specs.Requests.{AreAllowed, IsRequestOf, IsRequested, budgets_in}
use Rattle.line_request.specs.declared.ask.Ask.{Ask}
use Rattle.line_request.specs.declared.ask.Ask.TheVariants as ask
use Rattle.line_request.specs.declared.form.Form.TheVariants as form
use Rattle.line_request.specs.declared.request.Declaration.TheVariants as declaration
use Rattle.line_request.specs.declared.request.Request.{Request}
use Rattle.line_request.specs.declared.request.Request.TheVariants as request
use Rattle.line_request.specs.declared.verbs.Verb.TheVariants as verb
use Rattle.live_host.proofs.LoweringAsked.{same-word}
use Rattle.live_shards.specs.Asked.{is_net}

-- a network is declared, and nothing else is asked for
abbrev pub IsNetAsked : Ask → Type 0
IsNetAsked asked = (b : Budgets) × (asked ≡ ask.Declare (declaration.Net b))

abbrev first : Bytes → List Bytes → Bytes
first d [] = d
first d (word ∷ fields) = word

abbrev its-ask : (g : ℕ) (asked : Ask) (o : Option (ℕ × Ask)) → Ask
its-ask g asked None = asked
its-ask g asked (Some p) = p.1

allowed : (budgets : Option Budgets) (x : Request) → AreAllowed budgets x → (b : Budgets) × (x ≡ request.Declare (declaration.Net b))
allowed None x is = absurd is
allowed (Some b) x is = (b, is.1)

declared : (g h : ℕ) (asked : Ask) (x : Request) → (b : Budgets) × (x ≡ request.Declare (declaration.Net b)) → ◌≡◌ {A = Option (ℕ × Ask)} (Some (g, asked)) (asked_by (h, x)) → IsNetAsked asked
declared g h asked x (b, is) e = (b, ap (its-ask g asked) (e ∙ ap (λ r. asked_by (h, r)) is))

requested : (number : Option ℕ) (fields : List Bytes) (g : ℕ) (asked : Ask) (r : Option (ℕ × Request)) → IsRequestOf (Some verb.Net) number fields r
    → ◌≡◌ {A = Option (ℕ × Ask)} (Some (g, asked)) (option_and_then asked_by r) → IsNetAsked asked
requested None fields g asked r is e = absurd (cc)
requested (Some h) fields g asked None is e = absurd (cc)
requested (Some h) fields g asked (Some (k, x)) (None, reads, is) e = absurd (cc)
requested (Some h) fields g asked (Some (k, x)) (Some y, reads, is) e =
    let all = allowed (budgets_in fields) y reads in
    let same : x ≡ y = ap (λ (o : Option (ℕ × Request)). by y o) is in
    declared g k asked x (all.0, same ∙ all.1) e
  where
    by : Request → Option (ℕ × Request) → Request
    by d None = d
    by d (Some p) = p.1

before-net : (word : Bytes) (before fields : List Bytes) (last : Bytes) (g : ℕ) (asked : Ask) (r : Option (ℕ × Request)) → word ≡ codes "net" → word ∷ fields ≡ before ++ last ∷ []
    → IsRequested before r → ◌≡◌ {A = Option (ℕ × Ask)} (Some (g, asked)) (option_and_then asked_by r) → IsNetAsked asked
before-net word [] fields last g asked None net same is e = absurd (cc)
before-net word [] fields last g asked (Some x) net same is e = absurd (cc)
before-net word (w ∷ []) fields last g asked None net same is e = absurd (cc)
before-net word (w ∷ []) fields last g asked (Some x) net same is e = absurd (cc)
before-net word (w ∷ number ∷ more) fields last g asked r net same is e =
    let word_is : w ≡ codes "net" = sym (ap (first word) same) ∙ net in
    let kind : verb_in w ≡ Some verb.Net = ap verb_in word_is in
    requested (word_counter number) more g asked r (subst (λ v. IsRequestOf v (word_counter number) more r) kind is) e

served-net : (is_served : Bool) (word : Bytes) (before fields : List Bytes) (last : Bytes) (g : ℕ) (asked : Ask) → word ≡ codes "net" → word ∷ fields ≡ before ++ last ∷ []
    → IsServedNet is_served before (Some (g, asked)) → IsNetAsked asked
served-net true word before fields last g asked net same (r, is, e) = before-net word before fields last g asked r net same is e
served-net false word before fields last g asked net same none = absurd (cc)

net : (word : Bytes) (fields : List Bytes) (g : ℕ) (asked : Ask) → word ≡ codes "net" → IsNet (word ∷ fields) (Some (g, asked)) → IsNetAsked asked
net word fields g asked same (inl none) = let no = none.0 in absurd (cc)
net word fields g asked same (inr (before, last, is, served)) = served-net (is_word last (codes "served")) word before fields last g asked same is served

pub nets_declare_networks : (fields : List Bytes) (g : ℕ) (asked : Ask) → is_net fields ≡ true → IsAskedOf fields (Some (g, asked)) → IsNetAsked asked
nets_declare_networks [] g asked is asks = absurd (cc)
nets_declare_networks (word ∷ fields) g asked is asks =
    let same : word ≡ codes "net" = same-word word (codes "net") is in
    let form_is : form_in (word ∷ fields) ≡ form.Net = ap (λ w. form_in (w ∷ fields)) same in
    net word fields g asked same (subst (λ f. IsAskedAs f (word ∷ fields) (Some (g, asked))) form_is asks)
