-- In which order the lines of different networks come does not count.
use Rattle.std.specs.Prelude.{◌≡◌, ◌≢◌, ◌+◌, ◌≤◌, ◌<◌, ◌==◌, ◌++◌, ◌∷◌, [], ℕ, Bool, true, false, length, List, Option, Some, None, if◌then◌else◌}
use Rattle.std.specs.Ordering.{nat_cmp}
use Rattle.std.specs.BTreeMap.{is_at}
use Rattle.std.specs.Map.{lookup, remove_entry}
use Rattle.std.proofs.Common.{◌∙◌, refl, sym, ap, subst, inl, inr, arith, true≢false}
use Rattle.std.proofs.lemmas.Bool.Decides.{Decides-eqb}
use Rattle.line_request.specs.Outlines.{waiting_at, waiting_without}
use Rattle.line_script.specs.Script.{Bytes}
use Rattle.live_feed.specs.Served.{LineReply, ServesAll, journal_line, unanswered}
use Rattle.live_feed.specs.Served.ServesAll.{next, none}
use Rattle.live_feed.specs.WholeLines.{given}
use Rattle.live_feed.specs.declared.answering.Done.{Done}
use Rattle.live_host.specs.Apart.{AreAllSameButForNumbers, AreSameButForNumbers, HasRoomForNetwork, IsNoneOf, IsOrdered, OrderAmongNetworksDoesNotCount, OthersStay, NetworkLine, alone, is_done_to, texts_of_lines, lines_of_network}
use Rattle.live_host.specs.Futures.{AreAlike, behind_number}
use Rattle.live_host.specs.Hosts.{Live, Serves, live_at, new_live}
use Rattle.live_host.proofs.Alone.{found-alone, live_of, removed-apart, removed-ascend, removed-is-gone, same-live}
use Rattle.live_host.proofs.ApartBoth.{OwnSteps, and-none, and-one, empty-is-skipped, not-kept, not-of, of-it, same-first, steps-of}
use Rattle.live_host.proofs.ApartHosts.{at-most-one, count-removed, found-count, same-entries, waits-as-alone}
use Rattle.live_host.proofs.ApartLines.{IsOneOf, hosts_stay_ordered, lines_are_answered_next_to_others, stay-apart}
use Rattle.live_host.proofs.ApartRuns.{alike-after, begins-alike, begins-ordered, is-kept, stays-ordered}
use Rattle.live_host.proofs.Numbers.{numbers_stand_in_front}

-- ---- hosts with few networks
-- all networks of a host have these numbers
abbrev AreAmong : List ℕ → Live → Type 0
AreAmong gs l = (h : ℕ) → IsNoneOf h gs → (waiting_at l.waiting h ≡ None) × (live_at l h ≡ None)

-- the same without the network of a number
abbrev without : ℕ → Live → Live
without g l = live_of l.bytes (waiting_without l.waiting g) (remove_entry (is_at (nat_cmp g)) l.running)

without-ordered : (g : ℕ) (l : Live) → IsOrdered l → IsOrdered (without g l)
without-ordered g l ordered = record {
  waiting = removed-ascend (is_at (nat_cmp g)) 0 l.waiting ordered.waiting;
  running = removed-ascend (is_at (nat_cmp g)) 0 l.running ordered.running;
  apart = stay-apart g l (without g l) ordered (λ h differ. removed-apart g h l.waiting differ)
      (λ h differ. removed-apart g h l.running differ) (inl (removed-is-gone g 0 l.waiting ordered.waiting));
}

without-among : (g : ℕ) (gs : List ℕ) (l : Live) → IsOrdered l → AreAmong (g ∷ gs) l → AreAmong gs (without g l)
without-among g gs l ordered among h out = by (h == g) refl
  where
    by : (same : Bool) → (h == g) ≡ same
        → (waiting_at (without g l).waiting h ≡ None) × (live_at (without g l) h ≡ None)
    by true at =
        subst (λ k. (waiting_at (without g l).waiting k ≡ None) × (live_at (without g l) k ≡ None))
        (sym ((Decides-eqb h g).0 at))
        (removed-is-gone g 0 l.waiting ordered.waiting, removed-is-gone g 0 l.running ordered.running)
    by false at =
        let differ : h ≢ g = λ here. true≢false (sym ((Decides-eqb h g).1 here) ∙ at) in
        let found = among h (differ, out) in
        (removed-apart g h l.waiting differ ∙ found.0, removed-apart g h l.running differ ∙ found.1)

one-or-none : (g : ℕ) (l : Live) → IsOneOf l.waiting l.running g
    → found-count (waiting_at l.waiting g) + found-count (live_at l g) ≤ 1
one-or-none g l (inl is) =
    let at : found-count (waiting_at l.waiting g) ≡ 0 = ap found-count is in
    let most = at-most-one (live_at l g) in omega (arith, at, most)
one-or-none g l (inr is) =
    let at : found-count (live_at l g) ≡ 0 = ap found-count is in
    let most = at-most-one (waiting_at l.waiting g) in omega (arith, at, most)

count-among : (gs : List ℕ) (l : Live) → IsOrdered l → AreAmong gs l
    → length l.waiting + length l.running ≤ length gs
count-among [] l ordered among =
    let one = ap length (same-entries l.waiting [] ordered.waiting tt (λ h. (among h tt).0)) in
    let two = ap length (same-entries l.running [] ordered.running tt (λ h. (among h tt).1)) in
    omega (arith, one, two)
count-among (g ∷ gs) l ordered among =
    let rest = count-among gs (without g l) (without-ordered g l ordered) (without-among g gs l ordered among) in
    let one = count-removed (is_at (nat_cmp g)) l.waiting in
    let two = count-removed (is_at (nat_cmp g)) l.running in
    let few = one-or-none g l (ordered.apart g) in
    omega (arith, rest, one, two, few)

room-among : (gs : List ℕ) (l : Live) → length gs < 4096 → IsOrdered l → AreAmong gs l → HasRoomForNetwork l
room-among gs l few ordered among = let count = count-among gs l ordered among in omega (arith, count, few)

-- ---- lines of all networks
-- the lines of each network are served, one after the other, and leave it as it is there
abbrev AllSteps : ℕ → (ℕ → List NetworkLine) → Live → Live → Type 0
AllSteps longest owns l t = (g : ℕ) → OwnSteps longest g (owns g) (alone g l) (alone g t)

-- lines are served, which are these of each network, and lead to this
abbrev AreShuffled : ℕ → Live → Live → ℕ → (ℕ → List NetworkLine) → List Bytes → List Bytes → Type 0
AreShuffled longest l t n owns lines journal =
    (told : Bytes) × (new : Live) × (again : ServesAll Serves longest l n lines journal told new)
    × ((g : ℕ) → alone g new ≡ alone g t) × ((g : ℕ) → AreAllSameButForNumbers (owns g) (lines_of_network g again))

abbrev MayBeShuffled : ℕ → List ℕ → Live → ℕ → (ℕ → List NetworkLine) → List Bytes → Type 0
MayBeShuffled longest gs t n theirs journal =
    (l : Live) → IsOrdered l → AreAlike l l → AreAmong gs l → (owns : ℕ → List NetworkLine) → AllSteps longest owns l t
    → ((g : ℕ) → texts_of_lines (owns g) ≡ texts_of_lines (theirs g)) → ((h : ℕ) → IsNoneOf h gs → theirs h ≡ [])
    → AreShuffled longest l t n owns journal journal

-- ---- no line
no-lines : (owns : List NetworkLine) → texts_of_lines owns ≡ [] → owns ≡ []
no-lines [] is = refl
no-lines (o ∷ owns) is = absurd (cc)

at-end : (longest : ℕ) (gs : List ℕ) (t : Live) (n : ℕ) → MayBeShuffled longest gs t n (λ h. []) []
at-end longest gs t n l ordered alike among owns steps same out = (
  [],
  l,
  none,
  λ g. sym (subst (λ x. OwnSteps longest g x (alone g l) (alone g t)) (no-lines (owns g) (same g)) (steps g)),
  λ g. subst (λ x. AreAllSameButForNumbers x []) (sym (no-lines (owns g) (same g))) tt,
)

-- ---- a line that did nothing
with-empty : (longest : ℕ) (l t : Live) (n : ℕ) (owns : ℕ → List NetworkLine) (journal : List Bytes)
    → AreShuffled longest l t (n + 1) owns journal journal
    → AreShuffled longest l t n owns ([] ∷ journal) ([] ∷ journal)
with-empty longest l t n owns journal (told, new, rest, is, same) =
    let empty = empty-is-skipped longest l n in
    subst (λ x. AreShuffled longest l t n owns ([] ∷ journal) (x ∷ journal)) empty.1
    (told, new, next unanswered empty.0 rest, is, same)

shuffled-none : (longest : ℕ) (gs : List ℕ) (t : Live) (n : ℕ) (line : Bytes) (a : LineReply) (theirs : ℕ → List NetworkLine)
    (journal : List Bytes) → a.done ≡ None → MayBeShuffled longest gs t (n + 1) theirs journal
    → MayBeShuffled longest gs t n (and-one n line a theirs) (journal_line (given longest line) a ∷ journal)
shuffled-none longest gs t n line a theirs journal is later l ordered alike among owns steps same out =
    let others : (h : ℕ) → and-one n line a theirs h ≡ theirs h =
    λ h. and-none n line a theirs h (ap (is_done_to h) is) in
    subst (λ x. AreShuffled longest l t n owns (x ∷ journal) (x ∷ journal)) (sym (not-kept (given longest line) a is))
    (with-empty longest l t n owns journal
    (later l ordered alike among owns steps (λ g. same g ∙ ap texts_of_lines (others g)) (λ h none-of. sym (others h) ∙ out h none-of)))

-- ---- a line of a network
-- the lines of all networks, if these are left of the one
abbrev left-of : ℕ → List NetworkLine → (ℕ → List NetworkLine) → ℕ → List NetworkLine
left-of k os owns h = if h == k then os else owns h

with-one : (longest k : ℕ) (l now t : Live) (n : ℕ) (line : Bytes) (b : LineReply) (o : NetworkLine) (os : List NetworkLine)
    (owns : ℕ → List NetworkLine) (journal : List Bytes) → Serves l n (given longest line) b now → is_done_to k b.done ≡ true
    → ((h : ℕ) → h ≢ k → is_done_to h b.done ≡ false) → owns k ≡ o ∷ os
    → AreSameButForNumbers o (record { number = n; line = line; reply = b })
    → AreShuffled longest now t (n + 1) (left-of k os owns) journal journal
    → AreShuffled longest l t n owns (line ∷ journal) (journal_line (given longest line) b ∷ journal)
with-one longest k l now t n line b o os owns journal serves its not-its first one (told, new, rest, is, same) =
    (b.text ++ told, new, next b serves rest, is, λ h. by h (h == k) refl (same h))
  where
    here : AreAllSameButForNumbers os (lines_of_network k rest)
        → AreAllSameButForNumbers (owns k) (and-one n line b (λ h. lines_of_network h rest) k)
    here others =
        subst (λ x. AreAllSameButForNumbers x (and-one n line b (λ h. lines_of_network h rest) k)) (sym first)
        (subst
        (λ is. AreAllSameButForNumbers (o ∷ os)
        (if is then record { number = n; line = line; reply = b } ∷ lines_of_network k rest else lines_of_network k rest))
        (sym its) (one, others))

    by : (h : ℕ) (is : Bool) → (h == k) ≡ is → AreAllSameButForNumbers (if is then os else owns h) (lines_of_network h rest)
        → AreAllSameButForNumbers (owns h) (and-one n line b (λ h. lines_of_network h rest) h)
    by h true at others =
        let e : h ≡ k = (Decides-eqb h k).0 at in
        subst (λ x. AreAllSameButForNumbers (owns x) (and-one n line b (λ h. lines_of_network h rest) x)) (sym e)
        (here (subst (λ x. AreAllSameButForNumbers os (lines_of_network x rest)) e others))
    by h false at others =
        subst (AreAllSameButForNumbers (owns h))
        (sym (and-none n line b (λ h. lines_of_network h rest) h
        (not-its h (λ e. true≢false (sym ((Decides-eqb h k).1 e) ∙ at))))) others

-- what is left of the lines of all networks once one of the one was served
steps-left : (longest k : ℕ) (l now t : Live) (os : List NetworkLine) (owns : ℕ → List NetworkLine) → AllSteps longest owns l t
    → OwnSteps longest k os (alone k now) (alone k t) → OthersStay k l now → AllSteps longest (left-of k os owns) now t
steps-left longest k l now t os owns steps more stay h = by (h == k) refl
  where
    by : (is : Bool) → (h == k) ≡ is → OwnSteps longest h (if is then os else owns h) (alone h now) (alone h t)
    by true at =
        subst (λ x. OwnSteps longest x os (alone x now) (alone x t)) (sym ((Decides-eqb h k).0 at)) more
    by false at =
        subst (λ x. OwnSteps longest h (owns h) x (alone h t))
        (sym (stay h (λ e. true≢false (sym ((Decides-eqb h k).1 e) ∙ at)))) (steps h)

lines-left : (k n : ℕ) (line : Bytes) (a : LineReply) (os : List NetworkLine) (owns theirs : ℕ → List NetworkLine)
    → ((h : ℕ) → h ≢ k → is_done_to h a.done ≡ false) → ((g : ℕ) → texts_of_lines (owns g) ≡ texts_of_lines (and-one n line a theirs g))
    → texts_of_lines os ≡ texts_of_lines (theirs k) → (h : ℕ) → texts_of_lines (left-of k os owns h) ≡ texts_of_lines (theirs h)
lines-left k n line a os owns theirs not-its same others h = by (h == k) refl
  where
    by : (is : Bool) → (h == k) ≡ is → texts_of_lines (if is then os else owns h) ≡ texts_of_lines (theirs h)
    by true at = others ∙ ap (λ x. texts_of_lines (theirs x)) (sym ((Decides-eqb h k).0 at))
    by false at =
        same h ∙ ap texts_of_lines
        (and-none n line a theirs h (not-its h (λ e. true≢false (sym ((Decides-eqb h k).1 e) ∙ at))))

-- a network that has a line is among them
has-line : (k n : ℕ) (line : Bytes) (a : LineReply) (gs : List ℕ) (theirs : ℕ → List NetworkLine) → is_done_to k a.done ≡ true
    → ((h : ℕ) → IsNoneOf h gs → and-one n line a theirs h ≡ []) → (h : ℕ) → IsNoneOf h gs → h ≢ k
has-line k n line a gs theirs its out h none-of e =
    let no : record { number = n; line = line; reply = a } ∷ theirs k ≡ [] =
    sym (ap (λ b. if b then record { number = n; line = line; reply = a } ∷ theirs k else theirs k) its)
    ∙ out k (subst (λ x. IsNoneOf x gs) e none-of) in
    absurd (cc)

still-among : (k : ℕ) (gs : List ℕ) (l now : Live) → AreAmong gs l → OthersStay k l now
    → ((h : ℕ) → IsNoneOf h gs → h ≢ k) → AreAmong gs now
still-among k gs l now among stay differ h none-of =
    let as-before = stay h (differ h none-of) in (
      waits-as-alone h l now (ap (λ x. x.waiting) as-before) ∙ (among h none-of).0,
      sym (found-alone h now.running) ∙ ap (λ x. lookup (is_at (nat_cmp h)) x.running) as-before
          ∙ found-alone h l.running ∙ (among h none-of).1,
    )

shuffled-one : (longest : ℕ) (gs : List ℕ) (s after t : Live) (n : ℕ) (line : Bytes) (a : LineReply) (d : Done)
    (theirs : ℕ → List NetworkLine) (journal : List Bytes) → length gs < 4096 → Serves s n (given longest line) a after
    → a.done ≡ Some d → MayBeShuffled longest gs t (n + 1) theirs journal
    → MayBeShuffled longest gs t n (and-one n line a theirs) (journal_line (given longest line) a ∷ journal)
shuffled-one longest gs s after t n line a d theirs journal few was-served some later l ordered alike among owns steps same
    out =
    by (owns d.network) refl
  where
    its : is_done_to d.network a.done ≡ true
    its = of-it d.network a.done d some refl

    lines-here : texts_of_lines (owns d.network) ≡ line ∷ texts_of_lines (theirs d.network)
    lines-here =
        same d.network ∙ ap
        (λ b. texts_of_lines
        (if b then record { number = n; line = line; reply = a } ∷ theirs d.network else theirs d.network)) its

    served-so : (o : NetworkLine) (os : List NetworkLine) (own : Live) (e : Done) → owns d.network ≡ o ∷ os → (o.line ≡ line)
        × (texts_of_lines os ≡ texts_of_lines (theirs d.network)) → Serves (alone d.network l) o.number (given longest o.line) o.reply own
        → o.reply.done ≡ Some e → e.network ≡ d.network → OwnSteps longest d.network os own (alone d.network t)
        → (now : Live) → Serves l o.number (given longest line) o.reply now → alone d.network now ≡ own
        → OthersStay d.network l now
        → AreShuffled longest l t n owns (journal_line (given longest line) a ∷ journal)
        (journal_line (given longest line) a ∷ journal)
    served-so o os own e first (same-line, others) served done of-it-too more now serves own-is stay =
        let numbered = numbers_stand_in_front l now o.number (given longest line) o.reply alike serves in
        let b : LineReply = record { text = behind_number n numbered.0; done = o.reply.done } in
        let not-its : (h : ℕ) → h ≢ d.network → is_done_to h o.reply.done ≡ false =
        λ h differ. not-of h o.reply.done e done (λ is. differ (sym is ∙ of-it-too)) in
        let not-a : (h : ℕ) → h ≢ d.network → is_done_to h a.done ≡ false =
        λ h differ. not-of h a.done d some (λ is. differ (sym is)) in
        let differ = has-line d.network n line a gs theirs its out in
        subst (λ x. AreShuffled longest l t n owns (x ∷ journal) (x ∷ journal))
        (sym (is-kept longest s after n line a d was-served some))
        (subst (λ x. AreShuffled longest l t n owns (line ∷ journal) (x ∷ journal))
        (is-kept longest l now n line b e (numbered.2 n) done)
        (with-one longest d.network l now t n line b o os owns journal (numbered.2 n)
        (of-it d.network o.reply.done e done of-it-too) not-its first
        (record {
          line = sym same-line;
          done = refl;
          rests = numbered.0;
          one_text = numbered.1;
          other_text = refl;
        })
        (later now (hosts_stay_ordered l now n (given longest line) b ordered (numbered.2 n))
        (alike-after l now n (given longest line) b alike (numbered.2 n))
        (still-among d.network gs l now among stay differ) (left-of d.network os owns)
        (steps-left longest d.network l now t os owns steps
        (subst (λ x. OwnSteps longest d.network os x (alone d.network t)) (sym own-is) more) stay)
        (lines-left d.network n line a os owns theirs not-a same others)
        (λ h none-of. sym (and-none n line a theirs h (not-a h (differ h none-of))) ∙ out h none-of))))

    begin : (o : NetworkLine) (os : List NetworkLine) → owns d.network ≡ o ∷ os
        → OwnSteps longest d.network (o ∷ os) (alone d.network l) (alone d.network t)
        → AreShuffled longest l t n owns (journal_line (given longest line) a ∷ journal)
        (journal_line (given longest line) a ∷ journal)
    begin o os first (own, e, served, done, of-it-too, more) =
        let both =
        same-first o.line line (texts_of_lines os) (texts_of_lines (theirs d.network)) (sym (ap texts_of_lines first) ∙ lines-here) in
        let here : Serves (alone e.network l) o.number (given longest line) o.reply own =
        subst (λ h. Serves (alone h l) o.number (given longest line) o.reply own) (sym of-it-too)
        (subst (λ x. Serves (alone d.network l) o.number (given longest x) o.reply own) both.0 served) in
        let lift =
        lines_are_answered_next_to_others l own o.number (given longest line) o.reply e ordered
        (room-among gs l few ordered among) here done in
        served-so o os own e first both served done of-it-too more lift.0 lift.1
        (subst (λ h. alone h lift.0 ≡ own) of-it-too lift.2) (subst (λ h. OthersStay h l lift.0) of-it-too lift.3)

    by : (os : List NetworkLine) → owns d.network ≡ os
        → AreShuffled longest l t n owns (journal_line (given longest line) a ∷ journal)
        (journal_line (given longest line) a ∷ journal)
    by [] first =
        let no : [] ≡ line ∷ texts_of_lines (theirs d.network) = sym (ap texts_of_lines first) ∙ lines-here in
        absurd (cc)
    by (o ∷ os) first =
        begin o os first
        (subst (λ x. OwnSteps longest d.network x (alone d.network l) (alone d.network t)) first (steps d.network))

-- ---- all lines
shuffled : (longest : ℕ) (gs : List ℕ) (t : Live) → length gs < 4096 → {s u : Live} {n : ℕ} {lines journal : List Bytes}
    {text : Bytes} (other : ServesAll Serves longest s n lines journal text u)
    → MayBeShuffled longest gs t n (λ h. lines_of_network h other) journal
shuffled longest gs t few (none {s} {n}) = at-end longest gs t n
shuffled longest gs t few (next {s} {t = after} {n} {line} {journal} a serves others) =
    by a.done refl (shuffled longest gs t few others)
  where
    by : (o : Option Done) → a.done ≡ o → MayBeShuffled longest gs t (n + 1) (λ h. lines_of_network h others) journal
        → MayBeShuffled longest gs t n (and-one n line a (λ h. lines_of_network h others))
        (journal_line (given longest line) a ∷ journal)
    by None not-any later = shuffled-none longest gs t n line a (λ h. lines_of_network h others) journal not-any later
    by (Some d) some later =
        shuffled-one longest gs s after t n line a d (λ h. lines_of_network h others) journal few serves some later

-- hosts are the same whose networks are the same, each one alone
pub same-by-networks : (l t : Live) → IsOrdered l → IsOrdered t → ((g : ℕ) → alone g l ≡ alone g t) → l ≡ t
same-by-networks l t ordered also same =
    same-live l.bytes t.bytes l.waiting t.waiting l.running t.running (ap (λ x. x.bytes) (same 0))
    (same-entries l.waiting t.waiting ordered.waiting also.waiting
    (λ h. waits-as-alone h t l (ap (λ x. x.waiting) (same h))))
    (same-entries l.running t.running ordered.running also.running
    (λ h. sym (found-alone h l.running) ∙ ap (λ x. lookup (is_at (nat_cmp h)) x.running) (same h)
    ∙ found-alone h t.running))

pub order_among_networks_does_not_count : OrderAmongNetworksDoesNotCount
order_among_networks_does_not_count longest bytes n lines journal text t run m other_lines other_journal other_text u other
    gs few out same =
    by (shuffled longest gs t few other (new_live bytes) (begins-ordered bytes) (begins-alike bytes) (λ h none-of. (refl, refl))
    (λ g. lines_of_network g run) (λ g. steps-of longest g run (begins-ordered bytes)) same out)
  where
    by : AreShuffled longest (new_live bytes) t m (λ g. lines_of_network g run) other_journal other_journal
        → (told : Bytes) × (again : ServesAll Serves longest (new_live bytes) m other_journal other_journal told t)
        × ((g : ℕ) → AreAllSameButForNumbers (lines_of_network g run) (lines_of_network g again))
    by (told, new, again, is, answered) =
        subst
        (λ x. (told : Bytes) × (again : ServesAll Serves longest (new_live bytes) m other_journal other_journal told x)
        × ((g : ℕ) → AreAllSameButForNumbers (lines_of_network g run) (lines_of_network g again)))
        (same-by-networks new t (stays-ordered longest again (begins-ordered bytes))
        (stays-ordered longest run (begins-ordered bytes)) is)
        (told, again, answered)
