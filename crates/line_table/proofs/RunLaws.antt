-- What one line does to a listener.
use Rattle.std.proofs.Common.{◌≡◌, ℕ, List, [], ◌∷◌, refl, sym, subst, length, inl, inr}
use Rattle.std.proofs.lemmas.Bool.{cases_eq}
use Rattle.std.specs.Prelude.{◌≢◌, Option, Some, None, Result, Ok, Err, IfOk, map}
use Rattle.line_script.specs.Script.{Bytes}
use Rattle.scp_types.specs.Statements.{Sent}
use Rattle.scp_types.specs.declared.ballot.Ballot.{Ballot}
use Rattle.scp_codec.specs.Spelling.{Spells}
use Rattle.node_view.specs.declared.configured.Configured.{Configured}
use Rattle.line_table.specs.Listeners.{HeardRows}
use Rattle.line_table.specs.TableLines.{AreOwn, ArePut, Asks, AsksNone, Backs, Begins, Decodes, Hands, Prints, PutsRow, Takes, TellsListener}

-- what holds of a word holds of what prints that word
pub said : {P E : Type 0} (view : P → Option Bytes) (word : Option Bytes) (holds : Option Bytes → Type 0) (r : Result P E)
    → holds word → IfOk r (λ p. view p ≡ word) → IfOk r (λ p. holds (view p))
said view word holds (Ok p) h e = subst holds (sym e) h
said view word holds (Err x) h e = tt

pub same_number : (a b : ℕ) → (a ≢ b → ⊥) → a ≡ b
same_number a b h = elim (cases_eq a b) [ inl e ↦ e | inr n ↦ absurd (h n) ]

pub told : {P E : Type 0} (view : P → Option Bytes) (r : Result P E) (fields : List Bytes) (h k : HeardRows) (b : Ballot)
    → Asks fields b → k ≡ h → IfOk r (λ p. Backs h b (view p)) → IfOk r (λ p. TellsListener (Some h) fields (view p) (Some k))
told view (Ok p) fields h k b asks same backs = subst (λ n. TellsListener (Some h) fields (view p) (Some n)) (sym same) (TellsListener.ask asks backs)
told view (Err x) fields h k b asks same backs = tt

pub began : (fields : List Bytes) (c : Configured) (h : HeardRows) → h ≡ record { configured = c; rows = [] } → Begins fields c → TellsListener None fields None (Some h)
began fields c h new begins = subst (λ k. TellsListener None fields None (Some k)) (sym new) (TellsListener.itself begins)

pub was_put : {P E : Type 0} (view : P → Option Bytes) (r : Result P E) (fields : List Bytes) (h k : HeardRows) (slot : ℕ) (e : Sent)
    → slot ≡ h.configured.slot → PutsRow slot fields e → IfOk r (λ p. Takes h e (view p) k) → IfOk r (λ p. TellsListener (Some h) fields (view p) (Some k))
was_put view (Ok p) fields h k slot e at puts takes = TellsListener.put (subst (λ i. PutsRow i fields e) at puts) takes
was_put view (Err x) fields h k slot e at puts takes = tt

pub was_decoded : {P E : Type 0} (view : P → Option Bytes) (r : Result P E) (bytes : Bytes) (h k : HeardRows) (e : Sent)
    → Spells bytes e → IfOk r (λ p. Takes h e (view p) k) → IfOk r (λ p. Decodes h bytes (view p) k)
was_decoded view (Ok p) bytes h k e spells takes = Decodes.envelope e spells takes
was_decoded view (Err x) bytes h k e spells takes = tt

pub was_handed : {P E : Type 0} (view : P → Option Bytes) (r : Result P E) (fields : List Bytes) (h k : HeardRows) (items bytes : Bytes)
    → items ≡ bytes → Hands fields items → IfOk r (λ p. Decodes h bytes (view p) k) → IfOk r (λ p. TellsListener (Some h) fields (view p) (Some k))
was_handed view (Ok p) fields h k items bytes same hands decodes = TellsListener.env (subst (Hands fields) same hands) decodes
was_handed view (Err x) fields h k items bytes same hands decodes = tt

pub was_shown : {P E : Type 0} (view : P → Option Bytes) (r : Result P E) (fields : List Bytes) (h : HeardRows)
    → IfOk r (λ p. Prints h fields (view p)) → IfOk r (λ p. TellsListener (Some h) fields (view p) (Some h))
was_shown view (Ok p) fields h prints = TellsListener.shown prints
was_shown view (Err x) fields h prints = tt

pub asks_two : {A : Type 0} (view : A → Bytes) (fields : List A) → (length fields ≡ 2 → ⊥) → AsksNone (map view fields)
asks_two view [] other b asks = let e = asks.1 in cc
asks_two view (a ∷ []) other b asks = let e = asks.1 in cc
asks_two view (a ∷ c ∷ []) other b asks = other refl
asks_two view (a ∷ c ∷ d ∷ more) other b asks = let e = asks.1 in cc

pub own_three : {A : Type 0} (view : A → Bytes) (fields : List A) → (length fields ≡ 3 → ⊥) → (c : Configured) → AreOwn (map view fields) c → ⊥
own_three view [] other c own = own
own_three view (x ∷ []) other c own = own
own_three view (x ∷ y ∷ []) other c own = own
own_three view (x ∷ y ∷ z ∷ []) other c own = other refl
own_three view (x ∷ y ∷ z ∷ w ∷ more) other c own = own

pub put_three : {A : Type 0} (view : A → Bytes) (slot : ℕ) (fields : List A) → (length fields ≡ 3 → ⊥) → (e : Sent) → ArePut slot (map view fields) e → ⊥
put_three view slot [] other e put = put
put_three view slot (x ∷ []) other e put = put
put_three view slot (x ∷ y ∷ []) other e put = put
put_three view slot (x ∷ y ∷ z ∷ []) other e put = other refl
put_three view slot (x ∷ y ∷ z ∷ w ∷ more) other e put = put
