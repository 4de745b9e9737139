-- A line tells one thing.
use Rattle.std.proofs.Common.{◌≡◌, ◌∙◌, ℕ, Bool, true, false, List, [], ◌∷◌, refl, sym, ap, subst, inl, inr, get_or, arith}
use Rattle.std.specs.Prelude.{Option, Some, None, Result, Ok, Err, codes}
use Rattle.std.specs.List.{fold}
use Rattle.line_script.specs.Script.{Bytes}
use Rattle.line_script.specs.Words.{word_ballot}
use Rattle.line_script.proofs.DigitLaws.{octets_fit}
use Rattle.line_script.proofs.SlicesSpelled.{slices_spelled_once}
use Rattle.scp_types.specs.Trees.{Slices}
use Rattle.scp_types.specs.Statements.{Sent}
use Rattle.scp_types.specs.declared.ballot.Ballot.{Ballot}
use Rattle.scp_codec.specs.Steps.{IsBytes}
use Rattle.scp_codec.specs.declared.error.Fault.{Fault}
use Rattle.scp_codec.proofs.EnvelopeLaws.{is_read, fault_is}
use Rattle.scp_codec.specs.Reading.{decoding}
use Rattle.node_view.specs.declared.configured.Configured.{Configured}
use Rattle.scp_spec.specs.Reach.{IsReach}
use Rattle.scp_spec.proofs.Verdicts.OneList.{one_list}
use Rattle.node_view.proofs.FoundRows.{among_from, among_to}
use Rattle.line_table.specs.Listeners.{HeardRows}
use Rattle.line_table.specs.TableLines.{Asks, Backs, Begins, Decodes, Hands, LinesTellOneThing, Prints, PutsRow, Takes, fault_text, text_with_name}
use Rattle.line_table.specs.TableLines.Backs.{yes, no}
use Rattle.line_table.specs.TableLines.Takes.{replaced, stale, other}
use Rattle.line_table.specs.TableLines.Decodes.{envelope, fault}
use Rattle.line_table.specs.TableLines.TellsListener.{itself, ask, put, env, shown}

-- ---- small laws

same_some : {A : Type 0} (o : Option A) (a b : A) → o ≡ Some a → o ≡ Some b → a ≡ b
same_some o a b e f = let g : Some a ≡ Some b = sym e ∙ f in cc

-- ---- what is asked for is one thing

configured_once : (c d : Configured) → c.name ≡ d.name → c.slot ≡ d.slot → c.slices ≡ d.slices → c ≡ d
configured_once c d a b q = λ i. record { name = a i; slot = b i; slices = q i }

sent_once : (d e : Sent) → d.sender ≡ e.sender → d.slot ≡ e.slot → d.slices ≡ e.slices → d.body ≡ e.body → d ≡ e
sent_once d e a b q s = λ i. record { sender = a i; slot = b i; slices = q i; body = s i }

begins_once : (fields : List Bytes) (c d : Configured) → Begins fields c → Begins fields d → c ≡ d
begins_once [] c d x y = absurd x
begins_once (word ∷ []) c d x y = absurd x.1
begins_once (word ∷ name ∷ []) c d x y = absurd x.1
begins_once (word ∷ name ∷ slot ∷ []) c d x y = absurd x.1
begins_once (word ∷ name ∷ slot ∷ slices ∷ []) c d x y =
    configured_once c d (same_some _ _ _ x.1.0 y.1.0) (same_some _ _ _ x.1.1 y.1.1)
    (slices_spelled_once c.slices d.slices slices x.1.2.0 x.1.2.1 y.1.2.0 y.1.2.1)
begins_once (word ∷ name ∷ slot ∷ slices ∷ field ∷ more) c d x y = absurd x.1

asks_once : (fields : List Bytes) (a b : Ballot) → Asks fields a → Asks fields b → a ≡ b
asks_once fields a b x y =
    let words : codes "ask" ∷ x.0 ∷ [] ≡ codes "ask" ∷ y.0 ∷ [] = sym x.1 ∙ y.1 in
    let word : x.0 ≡ y.0 = cc in
    same_some _ a b (ap word_ballot (sym word) ∙ x.2) y.2

puts_once : (slot : ℕ) (fields : List Bytes) (d e : Sent) → PutsRow slot fields d → PutsRow slot fields e → d ≡ e
puts_once slot [] d e x y = absurd x
puts_once slot (word ∷ []) d e x y = absurd x.1
puts_once slot (word ∷ sender ∷ []) d e x y = absurd x.1
puts_once slot (word ∷ sender ∷ slices ∷ []) d e x y = absurd x.1
puts_once slot (word ∷ sender ∷ slices ∷ statement ∷ []) d e x y =
    sent_once d e (same_some _ _ _ x.1.0 y.1.0) (x.1.1 ∙ sym y.1.1)
    (slices_spelled_once d.slices e.slices slices x.1.2.0 x.1.2.1 y.1.2.0 y.1.2.1) (same_some _ _ _ x.1.3 y.1.3)
puts_once slot (word ∷ sender ∷ slices ∷ statement ∷ field ∷ more) d e x y = absurd x.1

hands_once : (fields : List Bytes) (xs ys : Bytes) → Hands fields xs → Hands fields ys → xs ≡ ys
hands_once [] xs ys x y = absurd x
hands_once (word ∷ []) xs ys x y = absurd x
hands_once (word ∷ digits ∷ []) xs ys x y = same_some _ xs ys x.1 y.1
hands_once (word ∷ digits ∷ field ∷ more) xs ys x y = absurd x

-- what is handed over is bytes: numbers below 256
hands_bytes : (fields : List Bytes) (bytes : Bytes) → Hands fields bytes → IsBytes bytes
hands_bytes [] bytes x = absurd x
hands_bytes (word ∷ []) bytes x = absurd x
hands_bytes (word ∷ digits ∷ []) bytes x = octets_fit digits bytes x.1
hands_bytes (word ∷ digits ∷ field ∷ more) bytes x = absurd x

-- ---- no line asks for two things

asks_no_put : (slot : ℕ) (fields : List Bytes) (b : Ballot) (e : Sent) → Asks fields b → PutsRow slot fields e → ⊥
asks_no_put slot fields b e x y = let z = subst (λ fs. PutsRow slot fs e) x.1 y in z.1

ask_or_env : codes "ask" ≡ codes "env" → ⊥
ask_or_env e = let first : 97 ≡ 101 = ap (λ (xs : List ℕ). get_or xs 0 0) e in omega (arith, first)

asks_no_bytes : (fields : List Bytes) (b : Ballot) (bytes : Bytes) → Asks fields b → Hands fields bytes → ⊥
asks_no_bytes fields b bytes x y =
    let z = subst (λ fs. Hands fs bytes) x.1 y in ask_or_env z.0

asks_nothing_shown : (h : HeardRows) (fields : List Bytes) (b : Ballot) (printed : Option Bytes) → Asks fields b
    → Prints h fields printed → ⊥
asks_nothing_shown h fields b printed x y = subst (λ fs. Prints h fs printed) x.1 y

puts_no_bytes : (slot : ℕ) (fields : List Bytes) (e : Sent) (bytes : Bytes) → PutsRow slot fields e → Hands fields bytes → ⊥
puts_no_bytes slot [] e bytes x y = x
puts_no_bytes slot (word ∷ []) e bytes x y = x.1
puts_no_bytes slot (word ∷ digits ∷ []) e bytes x y = x.1
puts_no_bytes slot (word ∷ digits ∷ field ∷ more) e bytes x y = y

puts_nothing_shown : (h : HeardRows) (slot : ℕ) (fields : List Bytes) (e : Sent) (printed : Option Bytes)
    → PutsRow slot fields e → Prints h fields printed → ⊥
puts_nothing_shown h slot [] e printed x y = x
puts_nothing_shown h slot (word ∷ []) e printed x y = x.1
puts_nothing_shown h slot (word ∷ field ∷ more) e printed x y = y

hands_nothing_shown : (h : HeardRows) (fields : List Bytes) (bytes : Bytes) (printed : Option Bytes)
    → Hands fields bytes → Prints h fields printed → ⊥
hands_nothing_shown h [] bytes printed x y = x
hands_nothing_shown h (word ∷ []) bytes printed x y = x
hands_nothing_shown h (word ∷ field ∷ more) bytes printed x y = y

-- ---- what is answered is one thing

backs_once : (h : HeardRows) (b : Ballot) (p q : Option Bytes) → Backs h b p → Backs h b q → p ≡ q
backs_once h b p q (yes x) (yes y) = refl
backs_once h b p q (yes x) (no y) = absurd (y x)
backs_once h b p q (no x) (yes y) = absurd (x y)
backs_once h b p q (no x) (no y) = refl

both : (b : Bool) → b ≡ true → b ≡ false → ⊥
both b x y = cc

takes_once : (h : HeardRows) (e : Sent) (p q : Option Bytes) (k l : HeardRows) → Takes h e p k → Takes h e q l
    → (p ≡ q) × (k ≡ l)
takes_once h e p q k l (replaced a b) (replaced c d) = (refl, refl)
takes_once h e p q k l (replaced a b) (stale c d) = absurd (both _ b d)
takes_once h e p q k l (replaced a b) (other c) = absurd (c a)
takes_once h e p q k l (stale a b) (replaced c d) = absurd (both _ d b)
takes_once h e p q k l (stale a b) (stale c d) = (refl, refl)
takes_once h e p q k l (stale a b) (other c) = absurd (c a)
takes_once h e p q k l (other a) (replaced c d) = absurd (a c)
takes_once h e p q k l (other a) (stale c d) = absurd (a c)
takes_once h e p q k l (other a) (other c) = (refl, refl)

ok_once : (r : Result Sent Fault) (d e : Sent) → r ≡ Ok d → r ≡ Ok e → d ≡ e
ok_once r d e x y = let z : Ok d ≡ Ok e = sym x ∙ y in cc

err_once : (r : Result Sent Fault) (f g : Fault) → r ≡ Err f → r ≡ Err g → f ≡ g
err_once r f g x y = let z : Err f ≡ Err g = sym x ∙ y in cc

ok_or_err : (r : Result Sent Fault) (e : Sent) (f : Fault) → r ≡ Ok e → r ≡ Err f → ⊥
ok_or_err r e f x y = let z : Ok e ≡ Err f = sym x ∙ y in cc

decodes_once : (h : HeardRows) (bytes : Bytes) (p q : Option Bytes) (k l : HeardRows) → IsBytes bytes
    → Decodes h bytes p k → Decodes h bytes q l → (p ≡ q) × (k ≡ l)
decodes_once h bytes p q k l fits (envelope d s t) (envelope e u v) =
    let same : d ≡ e = ok_once (decoding bytes) d e (is_read bytes d s) (is_read bytes e u) in
    takes_once h e p q k l (subst (λ x. Takes h x p k) same t) v
decodes_once h bytes p q k l fits (envelope d s t) (fault f x) =
    absurd (ok_or_err (decoding bytes) d f (is_read bytes d s) (fault_is bytes f fits x))
decodes_once h bytes p q k l fits (fault f x) (envelope e u v) =
    absurd (ok_or_err (decoding bytes) e f (is_read bytes e u) (fault_is bytes f fits x))
decodes_once h bytes p q k l fits (fault f x) (fault g y) =
    let same : f ≡ g = err_once (decoding bytes) f g (fault_is bytes f fits x) (fault_is bytes g fits y) in
    (ap (λ w. Some (fault_text w)) same, refl)

reach_once : (own : ℕ) (q : Slices) (rows : List Sent) (us ws : List ℕ) → IsReach own q rows us → IsReach own q rows ws → us ≡ ws
reach_once own q rows us ws x y = one_list us ws x.ascending y.ascending
    (λ u c. among_to ws u (y.exactly u ∙ sym (x.exactly u) ∙ among_from us u c))
    (λ u c. among_to us u (x.exactly u ∙ sym (y.exactly u) ∙ among_from ws u c))

show_or_reach : (word : Bytes) → word ≡ codes "show" → word ≡ codes "reach" → ⊥
show_or_reach word x y = let same : codes "show" ≡ codes "reach" = sym x ∙ y in cc

prints_once : (h : HeardRows) (fields : List Bytes) (p q : Option Bytes) → Prints h fields p → Prints h fields q → p ≡ q
prints_once h [] p q x y = absurd x
prints_once h (word ∷ []) p q (inl x) (inl y) = x.1 ∙ sym y.1
prints_once h (word ∷ []) p q (inl x) (inr y) = absurd (show_or_reach word x.0 y.0)
prints_once h (word ∷ []) p q (inr x) (inl y) = absurd (show_or_reach word y.0 x.0)
prints_once h (word ∷ []) p q (inr x) (inr y) =
    let same = reach_once h.configured.name h.configured.slices h.rows x.1.0 y.1.0 x.1.1 y.1.1 in
    x.1.2 ∙ ap (λ us. Some (fold text_with_name [] us)) same ∙ sym y.1.2
prints_once h (word ∷ field ∷ more) p q x y = absurd x

-- ---- what a line tells is one thing

listener_is : {p q : Option Bytes} {k l : HeardRows} → (p ≡ q) × (k ≡ l) → (p ≡ q) × (Some k ≡ Some l)
listener_is x = (x.0, ap (λ k. Some k) x.1)

pub lines_tell_one_thing : LinesTellOneThing
lines_tell_one_thing None new later fields p q (itself {c = c} x) (itself {c = d} y) =
    (refl, ap (λ (own : Configured). Some (record { configured = own; rows = [] })) (begins_once fields c d x y))
lines_tell_one_thing (Some h) new later fields p q (ask {b = a} x s) (ask {b = b} y t) =
    (backs_once h b p q (subst (λ w. Backs h w p) (asks_once fields a b x y) s) t, refl)
lines_tell_one_thing (Some h) new later fields p q (ask x s) (put y t) = absurd (asks_no_put _ fields _ _ x y)
lines_tell_one_thing (Some h) new later fields p q (ask x s) (env y t) = absurd (asks_no_bytes fields _ _ x y)
lines_tell_one_thing (Some h) new later fields p q (ask x s) (shown y) = absurd (asks_nothing_shown h fields _ q x y)
lines_tell_one_thing (Some h) new later fields p q (put x s) (ask y t) = absurd (asks_no_put _ fields _ _ y x)
lines_tell_one_thing (Some h) new later fields p q (put {k = k} {e = d} x s) (put {k = l} {e = e} y t) =
    let same = puts_once h.configured.slot fields d e x y in
    listener_is (takes_once h e p q k l (subst (λ w. Takes h w p k) same s) t)
lines_tell_one_thing (Some h) new later fields p q (put x s) (env y t) = absurd (puts_no_bytes _ fields _ _ x y)
lines_tell_one_thing (Some h) new later fields p q (put x s) (shown y) = absurd (puts_nothing_shown h _ fields _ q x y)
lines_tell_one_thing (Some h) new later fields p q (env x s) (ask y t) = absurd (asks_no_bytes fields _ _ y x)
lines_tell_one_thing (Some h) new later fields p q (env x s) (put y t) = absurd (puts_no_bytes _ fields _ _ y x)
lines_tell_one_thing (Some h) new later fields p q (env {k = k} {bytes = xs} x s) (env {k = l} {bytes = ys} y t) =
    let same = hands_once fields xs ys x y in
    listener_is (decodes_once h ys p q k l (hands_bytes fields ys y) (subst (λ w. Decodes h w p k) same s) t)
lines_tell_one_thing (Some h) new later fields p q (env x s) (shown y) = absurd (hands_nothing_shown h fields _ q x y)
lines_tell_one_thing (Some h) new later fields p q (shown x) (ask y t) = absurd (asks_nothing_shown h fields _ p y x)
lines_tell_one_thing (Some h) new later fields p q (shown x) (put y t) = absurd (puts_nothing_shown h _ fields _ p y x)
lines_tell_one_thing (Some h) new later fields p q (shown x) (env y t) = absurd (hands_nothing_shown h fields _ p y x)
lines_tell_one_thing (Some h) new later fields p q (shown x) (shown y) = (prints_once h fields p q x y, refl)
