-- What is noted of the lines that last, behind one more line.
use Rattle.std.specs.Prelude.{◌≡◌, ◌≢◌, ◌+◌, ◌==◌, ◌&&◌, ◌++◌, not, ℕ, Bool, true, false, cond, List, [], ◌∷◌, map, filter, Option, Some, None}
use Rattle.std.specs.declared.cmp.Ordering.{Ordering}
use Rattle.std.specs.Ordering.{is_eq, match_ordering, nat_cmp}
use Rattle.std.specs.BTreeMap.{insert_entry, is_at}
use Rattle.std.specs.Map.{set_value, values_of}
use Rattle.std.proofs.Common.{◌∙◌, Less, Equal, Greater, refl, sym, ap, subst, arith, true≢false}
use Rattle.std.proofs.lemmas.Bool.Decides.{Decides-eqb}
use Rattle.line_script.specs.Script.{Bytes}
use Rattle.live_feed.specs.Lasting.{Declaration, NetworkLines, SlotLines, both_drawn, entry_at, events_but, new_network, slots_with, without, without_all, without_slots}
use Rattle.live_feed.specs.declared.answering.Deed.{Deed}
use Rattle.live_feed.specs.declared.answering.Deed.TheVariants as deed
use Rattle.live_feed.specs.declared.answering.Drawn.{Drawn}
use Rattle.live_host.specs.Apart.{AreFrom}
use Rattle.live_host.specs.Compacted.{AppliedLine, AreLinesNoted, AreNumbered, AscendWithin, applied_behind, but_of_network, but_there, declarations_behind, declarations_of, declared_number, declares_of, is_at_slot, is_of_network, lines_at_slot, network_behind, noted, noted_behind, of_network, pair_of, slot_lines}
use Rattle.live_host.proofs.Alone.{at-itself, inserted-apart, inserted-ascend, none-below, removed-apart, removed-ascend, removed-is-gone, set-apart, set-ascend}
use Rattle.live_host.proofs.CompactedLists.{filter-append-one, filter-never, filter-twice, map-append-one, none-passes, not-at, within-filtered, without-passing}

-- ---- tests
same-number : (a b : ℕ) → (a == b) ≡ true → a ≡ b
same-number a b is = (Decides-eqb a b).0 is

pub itself : (a : ℕ) → (a == a) ≡ true
itself a = (Decides-eqb a a).1 refl

pub differs : (a b : ℕ) → a ≢ b → (a == b) ≡ false
differs a b apart = by (a == b) refl
  where
    by : (is : Bool) → (a == b) ≡ is → is ≡ false
    by true is = absurd (apart (same-number a b is))
    by false is = refl

-- one number is not two
pub not-both-numbers : (a b c : ℕ) → b ≢ c → ((a == b) && (a == c)) ≡ false
not-both-numbers a b c apart = by (a == b) refl
  where
    by : (is : Bool) → (a == b) ≡ is → (is && (a == c)) ≡ false
    by true is = differs a c (λ same. apart (sym (same-number a b is) ∙ same))
    by false is = refl

not-and-is : (b : Bool) → (not b && b) ≡ false
not-and-is true = refl
not-and-is false = refl

is-and-not : (b : Bool) → (b && not b) ≡ false
is-and-not true = refl
is-and-not false = refl

and-twice : (b : Bool) → (b && b) ≡ b
and-twice true = refl
and-twice false = refl

-- ---- lines of slots
noted-one : (o : Option SlotLines) (es : List AppliedLine) (e : AppliedLine)
    → noted_behind o (es ++ e ∷ []) ≡ noted (noted_behind o es) e
noted-one o [] e = refl
noted-one o (f ∷ es) e = noted-one (noted o f) es e

abbrev numbers_of : List AppliedLine → List ℕ
numbers_of es = map (λ e. (pair_of e).0) es

-- the lines of a slot are those that are noted
abbrev HasLines : List ℕ → Option SlotLines → Type 0
HasLines ns None = ⊥
HasLines ns (Some s) = s.lines ≡ ns

append-nested : (ns : List ℕ) (n : ℕ) (more : List ℕ) → (ns ++ n ∷ []) ++ more ≡ ns ++ n ∷ more
append-nested [] n more = refl
append-nested (m ∷ ns) n more = ap (λ l. m ∷ l) (append-nested ns n more)

append-none : (ns : List ℕ) → ns ≡ ns ++ []
append-none [] = refl
append-none (n ∷ ns) = ap (λ l. n ∷ l) (append-none ns)

has-lines-behind : (s : SlotLines) (es : List AppliedLine) → HasLines (s.lines ++ numbers_of es) (noted_behind (Some s) es)
has-lines-behind s [] = append-none s.lines
has-lines-behind s (e ∷ es) =
    subst (λ ns. HasLines ns (noted_behind (noted (Some s) e) es)) (append-nested s.lines e.number (numbers_of es))
    (has-lines-behind (record { lines = s.lines ++ e.number ∷ []; drawn = both_drawn s.drawn e.drawn }) es)

pub has-lines : (e : AppliedLine) (es : List AppliedLine) → HasLines (numbers_of (e ∷ es)) (slot_lines (e ∷ es))
has-lines e es = has-lines-behind (record { lines = e.number ∷ []; drawn = e.drawn }) es

-- those of a slot are noted as this
abbrev NotedAs : List AppliedLine → Option SlotLines → Type 0
NotedAs es None = es ≡ []
NotedAs es (Some s) = s.lines ≡ numbers_of es

noted-as : (es : List AppliedLine) (o : Option SlotLines) → o ≡ slot_lines es → NotedAs es o
noted-as es o is = subst (NotedAs es) (sym is) (by es)
  where
    some : (ns : List ℕ) (es : List AppliedLine) (o : Option SlotLines) → HasLines ns o → ns ≡ numbers_of es → NotedAs es o
    some ns es None has same = absurd has
    some ns es (Some s) has same = has ∙ same

    by : (es : List AppliedLine) → NotedAs es (slot_lines es)
    by [] = refl
    by (e ∷ es) = some (numbers_of (e ∷ es)) (e ∷ es) (slot_lines (e ∷ es)) (has-lines e es) refl

-- where no slot has lines there are none
pub no-slots : (es : List AppliedLine) → ((i : ℕ) → slot_lines (lines_at_slot i es) ≡ None) → es ≡ []
no-slots [] none = refl
no-slots (e ∷ es) none = absurd (by (e.slot == e.slot) (itself e.slot) (none e.slot))
  where
    never : (o : Option SlotLines) → HasLines (numbers_of (e ∷ lines_at_slot e.slot es)) o → o ≡ None → ⊥
    never None has is = has
    never (Some s) has is = cc

    by : (b : Bool) → b ≡ true → slot_lines (cond b (e ∷ lines_at_slot e.slot es) (lines_at_slot e.slot es)) ≡ None → ⊥
    by true is gone = never (slot_lines (e ∷ lines_at_slot e.slot es)) (has-lines e (lines_at_slot e.slot es)) gone
    by false is gone = true≢false (sym is)

-- ---- a slot that is closed
abbrev there : ℕ → ℕ → AppliedLine → Bool
there g i e = is_of_network g e && is_at_slot i e

slot-of-network : (g i : ℕ) (xs : List AppliedLine)
    → lines_at_slot i (of_network g xs) ≡ filter (λ e. is_of_network g e && is_at_slot i e) xs
slot-of-network g i xs =
    filter-twice (is_at_slot i) (is_of_network g) (λ e. is_of_network g e && is_at_slot i e) (λ e. refl) xs

-- what is left of the lines of all slots, without those of one of a network
pub closed-events : (g i n : ℕ) (xs : List AppliedLine) (o : Option SlotLines) → AscendWithin 0 n (map pair_of xs)
    → o ≡ slot_lines (lines_at_slot i (of_network g xs)) → events_but o (map pair_of xs) ≡ map pair_of (but_there g i xs)
closed-events g i n xs o are is = by o (noted-as (lines_at_slot i (of_network g xs)) o is)
  where
    by : (o : Option SlotLines) → NotedAs (lines_at_slot i (of_network g xs)) o
        → events_but o (map pair_of xs) ≡ map pair_of (but_there g i xs)
    by None none =
        ap (map pair_of)
        (sym (none-passes (λ e. is_of_network g e && is_at_slot i e) xs (sym (slot-of-network g i xs) ∙ none)))
    by (Some s) same =
        ap (λ ns. without_all ns (map pair_of xs)) (same ∙ ap numbers_of (slot-of-network g i xs))
        ∙ without-passing pair_of (λ e. is_of_network g e && is_at_slot i e) 0 n xs are

but-there-slot : (g i : ℕ) (xs : List AppliedLine) → lines_at_slot i (of_network g (but_there g i xs)) ≡ []
but-there-slot g i xs =
    slot-of-network g i (but_there g i xs)
    ∙ filter-never (λ e. is_of_network g e && is_at_slot i e) (λ e. not (is_of_network g e && is_at_slot i e))
    (λ e. not-and-is (is_of_network g e && is_at_slot i e)) xs

but-there-others : (g i j : ℕ) (xs : List AppliedLine) → j ≢ i
    → lines_at_slot j (of_network g (but_there g i xs)) ≡ lines_at_slot j (of_network g xs)
but-there-others g i j xs apart =
    slot-of-network g j (but_there g i xs)
    ∙ filter-twice (λ e. is_of_network g e && is_at_slot j e) (λ e. not (is_of_network g e && is_at_slot i e))
    (λ e. is_of_network g e && is_at_slot j e)
    (λ e. by (is_of_network g e) (is_at_slot i e) (is_at_slot j e) (not-both-numbers e.slot i j (λ same. apart (sym same))))
    xs ∙ sym (slot-of-network g j xs)
  where
    by : (a b c : Bool) → (b && c) ≡ false → (not (a && b) && (a && c)) ≡ (a && c)
    by true true true is = absurd (true≢false is)
    by true true false is = refl
    by true false c is = refl
    by false b c is = refl

-- the slots that are noted are those of the lines that are left
abbrev AreSlots : ℕ → List (ℕ × SlotLines) → List AppliedLine → Type 0
AreSlots g slots xs = (i : ℕ) → entry_at slots i ≡ slot_lines (lines_at_slot i (of_network g xs))

-- without a slot they are those without its lines
closed-slots : (g i k : ℕ) (slots left : List (ℕ × SlotLines)) (xs : List AppliedLine) → AreSlots g slots xs
    → entry_at left i ≡ None → ((j : ℕ) → j ≢ i → entry_at left j ≡ entry_at slots j) → AreSlots g left (but_there g i xs)
closed-slots g i k slots left xs are gone others j = by (j == i) refl
  where
    by : (b : Bool) → (j == i) ≡ b → entry_at left j ≡ slot_lines (lines_at_slot j (of_network g (but_there g i xs)))
    by true is =
        ap (entry_at left) (same-number j i is) ∙ gone ∙ sym (ap slot_lines (but-there-slot g i xs))
        ∙ ap (λ h. slot_lines (lines_at_slot h (of_network g (but_there g i xs)))) (sym (same-number j i is))
    by false is =
        let apart : j ≢ i = λ same. true≢false (sym ((Decides-eqb j i).1 same) ∙ is) in
        others j apart ∙ are j ∙ sym (ap slot_lines (but-there-others g i j xs apart))

-- ---- a network that is taken back
but-there-but : (g i : ℕ) (xs : List AppliedLine) → but_of_network g (but_there g i xs) ≡ but_of_network g xs
but-there-but g i xs =
    filter-twice (λ e. not (is_of_network g e)) (λ e. not (is_of_network g e && is_at_slot i e))
    (λ e. not (is_of_network g e)) (λ e. by (is_of_network g e) (is_at_slot i e)) xs
  where
    by : (a b : Bool) → (not (a && b) && not a) ≡ not a
    by true true = refl
    by true false = refl
    by false b = refl

-- without the lines of all slots of a network, those of all others are left
pub dropped-events : (g k n : ℕ) (slots : List (ℕ × SlotLines)) (xs : List AppliedLine) → AreFrom k slots
    → AscendWithin 0 n (map pair_of xs) → AreSlots g slots xs
    → without_slots (values_of slots) (map pair_of xs) ≡ map pair_of (but_of_network g xs)
dropped-events g k n [] xs ascend within are =
    ap (map pair_of) (sym (none-passes (is_of_network g) xs (no-slots (of_network g xs) (λ i. sym (are i)))))
dropped-events g k n (e ∷ slots) xs ascend within are =
    let here : Some e.1 ≡ slot_lines (lines_at_slot e.0 (of_network g xs)) =
    ap (λ b. cond b (Some e.1) (entry_at slots e.0)) (sym (at-that e.0)) ∙ are e.0 in
    let gone : entry_at slots e.0 ≡ None = none-below e.0 (e.0 + 1) slots ascend.1 (omega arith) in
    ap (without_slots (values_of slots)) (closed-events g e.0 n xs (Some e.1) within here)
    ∙ dropped-events g (e.0 + 1) n slots (but_there g e.0 xs) ascend.1
    (within-filtered pair_of (λ x. not (is_of_network g x && is_at_slot e.0 x)) 0 n xs within)
    (closed-slots g e.0 0 (e ∷ slots) slots xs are gone
    (λ j apart. sym (ap (λ b. cond b (Some e.1) (entry_at slots j)) (not-at j e.0 apart))))
    ∙ ap (map pair_of) (but-there-but g e.0 xs)
  where
    at-that : (i : ℕ) → is_at (nat_cmp i) i ≡ true
    at-that i = ap is_eq (at-itself i)

-- ---- a line that is applied
-- the slot of a number, with one more line
pub inserted-there : {X : Type 0} (es : List (ℕ × X)) (g : ℕ) (x : X) → entry_at (insert_entry nat_cmp es g x) g ≡ Some x
inserted-there [] g x = ap (λ o. cond (is_eq o) (Some x) None) (at-itself g)
inserted-there {X} (e ∷ es) g x = step (nat_cmp g e.0) refl (inserted-there es g x)
  where
    step : (o : Ordering) → nat_cmp g e.0 ≡ o → entry_at (insert_entry nat_cmp es g x) g ≡ Some x
        → entry_at (match_ordering o ((g, x) ∷ e ∷ es) ((e.0, x) ∷ es) (e ∷ insert_entry nat_cmp es g x)) g ≡ Some x
    step Less is others = ap (λ o. cond (is_eq o) (Some x) (entry_at (e ∷ es) g)) (at-itself g)
    step Equal is others = ap (λ o. cond (is_eq o) (Some x) (entry_at es g)) is
    step Greater is others = ap (λ o. cond (is_eq o) (Some e.1) (entry_at (insert_entry nat_cmp es g x) g)) is ∙ others

pub set-there : {X : Type 0} (es : List (ℕ × X)) (g : ℕ) (x y : X) → entry_at es g ≡ Some y
    → entry_at (set_value (is_at (nat_cmp g)) es x) g ≡ Some x
set-there [] g x y is = absurd (cc)
set-there {X} (e ∷ es) g x y is = step (is_at (nat_cmp g) e.0) refl is (set-there es g x y)
  where
    step : (b : Bool) → is_at (nat_cmp g) e.0 ≡ b → cond b (Some e.1) (entry_at es g) ≡ Some y
        → (entry_at es g ≡ Some y → entry_at (set_value (is_at (nat_cmp g)) es x) g ≡ Some x)
        → entry_at (cond b ((e.0, x) ∷ es) (e ∷ set_value (is_at (nat_cmp g)) es x)) g ≡ Some x
    step true at is others = ap (λ b. cond b (Some x) (entry_at es g)) at
    step false at is others =
        ap (λ b. cond b (Some e.1) (entry_at (set_value (is_at (nat_cmp g)) es x) g)) at ∙ others is

with-line : (slots : List (ℕ × SlotLines)) (i n g : ℕ) (text : Bytes) (d : Drawn) (o : Option SlotLines)
    → entry_at slots i ≡ o → entry_at (slots_with o i n d slots) i
    ≡ noted o (record { number = n; network = g; text = text; slot = i; drawn = d })
with-line slots i n g text d None is = inserted-there slots i (record { lines = n ∷ []; drawn = d })
with-line slots i n g text d (Some slot) is =
    set-there slots i (record { lines = slot.lines ++ n ∷ []; drawn = both_drawn slot.drawn d }) slot is

with-line-others : (slots : List (ℕ × SlotLines)) (i j n : ℕ) (d : Drawn) (o : Option SlotLines) → j ≢ i
    → entry_at (slots_with o i n d slots) j ≡ entry_at slots j
with-line-others slots i j n d None apart = inserted-apart i j slots (record { lines = n ∷ []; drawn = d }) apart
with-line-others slots i j n d (Some slot) apart =
    set-apart i j slots (record { lines = slot.lines ++ n ∷ []; drawn = both_drawn slot.drawn d }) apart

with-line-ascend : (slots : List (ℕ × SlotLines)) (i n : ℕ) (d : Drawn) (o : Option SlotLines) → AreFrom 0 slots
    → AreFrom 0 (slots_with o i n d slots)
with-line-ascend slots i n d None are = inserted-ascend i 0 slots (record { lines = n ∷ []; drawn = d }) (omega arith) are
with-line-ascend slots i n d (Some slot) are =
    set-ascend (is_at (nat_cmp i)) 0 slots (record { lines = slot.lines ++ n ∷ []; drawn = both_drawn slot.drawn d }) are

-- one more line of a network is one more of its slot
applied-there : (g n i : ℕ) (text : Bytes) (d : Drawn) (es : List AppliedLine)
    → lines_at_slot i (es ++ record { number = n; network = g; text = text; slot = i; drawn = d } ∷ [])
    ≡ lines_at_slot i es ++ record { number = n; network = g; text = text; slot = i; drawn = d } ∷ []
applied-there g n i text d es =
    let e : AppliedLine = record { number = n; network = g; text = text; slot = i; drawn = d } in
    filter-append-one (is_at_slot i) es e ∙ ap (λ b. lines_at_slot i es ++ cond b (e ∷ []) []) (itself i)

applied-elsewhere : (g n i j : ℕ) (text : Bytes) (d : Drawn) (es : List AppliedLine) → j ≢ i
    → lines_at_slot j (es ++ record { number = n; network = g; text = text; slot = i; drawn = d } ∷ []) ≡ lines_at_slot j es
applied-elsewhere g n i j text d es apart =
    let e : AppliedLine = record { number = n; network = g; text = text; slot = i; drawn = d } in
    filter-append-one (is_at_slot j) es e
    ∙ ap (λ b. lines_at_slot j es ++ cond b (e ∷ []) []) (differs i j (λ same. apart (sym same))) ∙ append-nothing (lines_at_slot j es)
  where
    append-nothing : (es : List AppliedLine) → es ++ [] ≡ es
    append-nothing [] = refl
    append-nothing (e ∷ es) = ap (λ l. e ∷ l) (append-nothing es)

applied-slots : (g n i : ℕ) (text : Bytes) (d : Drawn) (slots : List (ℕ × SlotLines)) (es : List AppliedLine)
    → ((j : ℕ) → entry_at slots j ≡ slot_lines (lines_at_slot j es))
    → (j : ℕ) → entry_at (slots_with (entry_at slots i) i n d slots) j
    ≡ slot_lines (lines_at_slot j (es ++ record { number = n; network = g; text = text; slot = i; drawn = d } ∷ []))
applied-slots g n i text d slots es are j = by (j == i) refl
  where
    by : (b : Bool) → (j == i) ≡ b → entry_at (slots_with (entry_at slots i) i n d slots) j
        ≡ slot_lines (lines_at_slot j (es ++ record { number = n; network = g; text = text; slot = i; drawn = d } ∷ []))
    by true is =
        let e : AppliedLine = record { number = n; network = g; text = text; slot = i; drawn = d } in
        ap (entry_at (slots_with (entry_at slots i) i n d slots)) (same-number j i is)
        ∙ with-line slots i n g text d (entry_at slots i) refl ∙ ap (λ o. noted o e) (are i)
        ∙ sym (noted-one None (lines_at_slot i es) e) ∙ sym (ap slot_lines (applied-there g n i text d es))
        ∙ ap (λ h. slot_lines (lines_at_slot h (es ++ e ∷ []))) (sym (same-number j i is))
    by false is =
        let apart : j ≢ i = λ same. true≢false (sym ((Decides-eqb j i).1 same) ∙ is) in
        with-line-others slots i j n d (entry_at slots i) apart ∙ are j
        ∙ sym (ap slot_lines (applied-elsewhere g n i j text d es apart))

-- ---- what is noted of a network
-- behind a line of it, of whose lines this is noted
numbered-behind : (g n : ℕ) (text : Bytes) (d : Deed) (net : NetworkLines) (ds : List (ℕ × Declaration))
    (xs : List AppliedLine) → AreNumbered net (declarations_of g ds) (of_network g xs)
    → AreLinesNoted (network_behind n d (Some net)) (declarations_behind n text g d (declarations_of g ds))
    (applied_behind n text g d (of_network g xs))
numbered-behind g n text deed.Declared net ds xs are = record {
  declared = ap (λ l. l ++ n ∷ []) are.declared
      ∙ sym (map-append-one declared_number (declarations_of g ds) (n, record { network = g; text = text }));
  ascend = are.ascend;
  slots = are.slots;
}
numbered-behind g n text deed.Refused net ds xs are =
    record { declared = are.declared; ascend = are.ascend; slots = are.slots }
numbered-behind g n text (deed.Applied i d) net ds xs are = record {
  declared = are.declared;
  ascend = with-line-ascend net.slots i n d (entry_at net.slots i) are.ascend;
  slots = applied-slots g n i text d net.slots (of_network g xs) are.slots;
}
numbered-behind g n text (deed.Closed i d) net ds xs are = record {
  declared = are.declared;
  ascend = removed-ascend (is_at (nat_cmp i)) 0 net.slots are.ascend;
  slots = λ j. closed-slots g i 0 net.slots (without i net.slots) xs are.slots (removed-is-gone i 0 net.slots are.ascend)
      (λ j apart. removed-apart i j net.slots apart) j ∙ ap (λ es. slot_lines (lines_at_slot j es)) (commutes g i xs);
}
  where
    commutes : (g i : ℕ) (xs : List AppliedLine) → of_network g (but_there g i xs) ≡ but_there g i (of_network g xs)
    commutes g i xs =
        filter-twice (is_of_network g) (λ e. not (is_of_network g e && is_at_slot i e))
        (λ e. is_of_network g e && not (is_of_network g e && is_at_slot i e))
        (λ e. by (not (is_of_network g e && is_at_slot i e)) (is_of_network g e)) xs
        ∙ sym (filter-twice (λ e. not (is_of_network g e && is_at_slot i e)) (is_of_network g)
        (λ e. is_of_network g e && not (is_of_network g e && is_at_slot i e)) (λ e. refl) xs)
      where
        by : (a b : Bool) → (a && b) ≡ (b && a)
        by true true = refl
        by true false = refl
        by false true = refl
        by false false = refl
numbered-behind g n text deed.Dropped net ds xs are = (
  filter-never (λ e. not (declares_of g e)) (declares_of g) (λ e. is-and-not (declares_of g e)) ds,
  filter-never (λ e. not (is_of_network g e)) (is_of_network g) (λ e. is-and-not (is_of_network g e)) xs,
)

none-is-new : (ds : List (ℕ × Declaration)) (es : List AppliedLine) → ds ≡ [] → es ≡ [] → AreNumbered new_network ds es
none-is-new ds es no-ds no-es = record {
  declared = sym (ap (map declared_number) no-ds);
  ascend = tt;
  slots = λ i. sym (ap (λ l. slot_lines (lines_at_slot i l)) no-es);
}

pub noted-behind : (g n : ℕ) (text : Bytes) (d : Deed) (net : Option NetworkLines) (ds : List (ℕ × Declaration))
    (xs : List AppliedLine) → AreLinesNoted net (declarations_of g ds) (of_network g xs)
    → AreLinesNoted (network_behind n d net) (declarations_behind n text g d (declarations_of g ds))
    (applied_behind n text g d (of_network g xs))
noted-behind g n text d (Some net) ds xs are = numbered-behind g n text d net ds xs are
noted-behind g n text d None ds xs (no-ds, no-es) =
    by d (numbered-behind g n text d new_network ds xs (none-is-new (declarations_of g ds) (of_network g xs) no-ds no-es))
  where
    by : (d : Deed) → AreLinesNoted (network_behind n d (Some new_network)) (declarations_behind n text g d (declarations_of g ds))
        (applied_behind n text g d (of_network g xs))
        → AreLinesNoted (network_behind n d None) (declarations_behind n text g d (declarations_of g ds))
        (applied_behind n text g d (of_network g xs))
    by deed.Declared are = are
    by deed.Refused are = are
    by (deed.Applied i e) are = are
    by (deed.Closed i e) are = are
    by deed.Dropped are = are
