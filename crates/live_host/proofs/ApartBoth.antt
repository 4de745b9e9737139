-- What became of a network in one host may become of it in another that had the same lines of it.
use Rattle.std.specs.Prelude.{◌≡◌, ◌≢◌, ◌+◌, ◌==◌, ◌++◌, ◌∷◌, [], ℕ, Bool, true, false, nat_lt, List, Option, Some, None, if◌then◌else◌}
use Rattle.std.proofs.Common.{◌∙◌, refl, sym, ap, subst, inl, arith, true≢false}
use Rattle.std.proofs.lemmas.Bool.Decides.{Decides-eqb, nat_tests}
use Rattle.line_script.specs.Script.{Bytes}
use Rattle.live_feed.specs.Served.{LineReply, ServesAll, journal_line, kept_as, is_kept, unanswered}
use Rattle.live_feed.specs.Served.ServesAll.{next, none}
use Rattle.live_feed.specs.WholeLines.{given}
use Rattle.live_feed.specs.declared.answering.Done.{Done}
use Rattle.live_host.specs.Apart.{AreAllSameButForNumbers, AreSameButForNumbers, HasRoomToSpare, IsOrdered, KeepsRoom, NetworksAreApart, OthersStay, NetworkLine, alone, is_done_to, texts_of_lines, lines_of_network}
use Rattle.live_host.specs.Futures.{AreAlike, behind_number}
use Rattle.live_host.specs.Hosts.{Live, Serves, new_live}
use Rattle.live_host.proofs.ApartHosts.{room-next-to}
use Rattle.live_host.proofs.ApartLines.{hosts_stay_ordered, lines_are_answered_next_to_others, lines_are_local, other_lines_change_nothing}
use Rattle.live_host.proofs.ApartRuns.{alike-after, begins-alike, begins-ordered, is-another, is-its, is-kept, is-own}
use Rattle.live_host.proofs.Numbers.{numbers_stand_in_front}

-- ---- the lines of a network, one after the other
abbrev pub OwnSteps : ℕ → ℕ → List NetworkLine → Live → Live → Type 0
OwnSteps longest g [] l t = t ≡ l
OwnSteps longest g (o ∷ owns) l t =
    (now : Live) × (d : Done) × Serves l o.number (given longest o.line) o.reply now × (o.reply.done ≡ Some d)
    × (d.network ≡ g) × OwnSteps longest g owns now t

pub steps-of : (longest g : ℕ) {l t : Live} {n : ℕ} {lines journal : List Bytes} {text : Bytes}
    (run : ServesAll Serves longest l n lines journal text t) → IsOrdered l
    → OwnSteps longest g (lines_of_network g run) (alone g l) (alone g t)
steps-of longest g none ordered = refl
steps-of longest g (next {s} {t = now} {u} {n} {line} a serves others) ordered =
    by (is_done_to g a.done) refl
    (steps-of longest g others (hosts_stay_ordered s now n (given longest line) a ordered serves))
  where
    by : (is : Bool) → is_done_to g a.done ≡ is → OwnSteps longest g (lines_of_network g others) (alone g now) (alone g u)
        → OwnSteps longest g
        (if is then record { number = n; line = line; reply = a } ∷ lines_of_network g others else lines_of_network g others) (alone g s)
        (alone g u)
    by true is rest =
        let its = is-its g a.done is in (
          alone g now,
          its.0,
          is-own g s now n (given longest line) a its.0 ordered serves its.1 its.2,
          its.1,
          its.2,
          rest,
        )
    by false is rest =
        subst (λ l. OwnSteps longest g (lines_of_network g others) l (alone g u))
        (is-another g s now n (given longest line) a ordered serves is) rest

-- ---- lines of one network among those of others
-- Lines are served: of one network these, which leave it so; of the others those, which leave them as they are there.
abbrev AreServedAgain : ℕ → ℕ → Live → Live → Live → ℕ → List NetworkLine → (ℕ → List NetworkLine) → List Bytes → List Bytes → Type 0
AreServedAgain longest g l u own n owns theirs lines journal =
    (told : Bytes) × (new : Live) × (again : ServesAll Serves longest l n lines journal told new) × (alone g new ≡ own)
    × OthersStay g u new × AreAllSameButForNumbers owns (lines_of_network g again)
    × ((h : ℕ) → h ≢ g → lines_of_network h again ≡ theirs h)

-- a journal may be served so in each host whose other networks are those
abbrev MayBeServedAgain : ℕ → ℕ → Live → Live → ℕ → (ℕ → List NetworkLine) → List Bytes → Type 0
MayBeServedAgain longest g s u n theirs journal =
    (l own : Live) → IsOrdered l → AreAlike l l → OthersStay g s l → (owns : List NetworkLine)
    → OwnSteps longest g owns (alone g l) own → texts_of_lines owns ≡ texts_of_lines (theirs g)
    → AreServedAgain longest g l u own n owns theirs journal journal

-- with one line more, if it did something to the network
abbrev pub and-one : ℕ → Bytes → LineReply → (ℕ → List NetworkLine) → ℕ → List NetworkLine
and-one n line a theirs h =
    if is_done_to h a.done then record { number = n; line = line; reply = a } ∷ theirs h else theirs h

pub not-of : (g : ℕ) (o : Option Done) (d : Done) → o ≡ Some d → d.network ≢ g → is_done_to g o ≡ false
not-of g o d some differ = ap (is_done_to g) some ∙ by (d.network == g) refl
  where
    by : (is : Bool) → (d.network == g) ≡ is → (d.network == g) ≡ false
    by true is = absurd (differ ((Decides-eqb d.network g).0 is))
    by false is = is

pub of-it : (g : ℕ) (o : Option Done) (d : Done) → o ≡ Some d → d.network ≡ g → is_done_to g o ≡ true
of-it g o d some is = ap (is_done_to g) some ∙ (Decides-eqb d.network g).1 is

pub and-none : (n : ℕ) (line : Bytes) (a : LineReply) (theirs : ℕ → List NetworkLine) (h : ℕ) → is_done_to h a.done ≡ false
    → and-one n line a theirs h ≡ theirs h
and-none n line a theirs h is =
    ap (λ b. if b then record { number = n; line = line; reply = a } ∷ theirs h else theirs h) is

-- ---- a line that did nothing
none-is-longer : (longest : ℕ) → nat_lt longest 0 ≡ false
none-is-longer longest = grind (arith, nat_tests)

pub empty-is-skipped : (longest : ℕ) (l : Live) (n : ℕ)
    → Serves l n (given longest []) unanswered l × (journal_line (given longest []) unanswered ≡ [])
empty-is-skipped longest l n = by (nat_lt longest 0) (none-is-longer longest)
  where
    by : (long : Bool) → long ≡ false
        → Serves l n (if long then None else Some []) unanswered l
        × (journal_line (if long then None else Some []) unanswered ≡ [])
    by true is = absurd (true≢false is)
    by false is = (inl ((refl, refl), refl, refl), refl)

pub not-kept : (o : Option Bytes) (a : LineReply) → a.done ≡ None → journal_line o a ≡ []
not-kept None a is = refl
not-kept (Some line) a is = ap (λ d. kept_as (Some line) (is_kept (record { text = a.text; done = d }))) is

-- an empty line in front
with-none : (longest g : ℕ) (l u own : Live) (n : ℕ) (owns : List NetworkLine) (theirs : ℕ → List NetworkLine) (journal : List Bytes)
    → AreServedAgain longest g l u own (n + 1) owns theirs journal journal
    → AreServedAgain longest g l u own n owns theirs ([] ∷ journal) ([] ∷ journal)
with-none longest g l u own n owns theirs journal (told, new, rest, is, stay, same, others) =
    let empty = empty-is-skipped longest l n in
    subst (λ x. AreServedAgain longest g l u own n owns theirs ([] ∷ journal) (x ∷ journal)) empty.1
    (told, new, next unanswered empty.0 rest, is, stay, same, others)

-- as they are for others that are the same
as-theirs : (longest g : ℕ) (l u own : Live) (n : ℕ) (owns : List NetworkLine) (theirs also : ℕ → List NetworkLine) (journal : List Bytes)
    → ((h : ℕ) → theirs h ≡ also h) → AreServedAgain longest g l u own n owns theirs journal journal
    → AreServedAgain longest g l u own n owns also journal journal
as-theirs longest g l u own n owns theirs also journal are (told, new, rest, is, stay, same, others) =
    (told, new, rest, is, stay, same, λ h differ. others h differ ∙ are h)

again-none : (longest g : ℕ) (s now u : Live) (n : ℕ) (line : Bytes) (a : LineReply) (theirs : ℕ → List NetworkLine)
    (journal : List Bytes) → Serves s n (given longest line) a now → a.done ≡ None
    → MayBeServedAgain longest g now u (n + 1) theirs journal
    → MayBeServedAgain longest g s u n (and-one n line a theirs) (journal_line (given longest line) a ∷ journal)
again-none longest g s now u n line a theirs journal serves is later l own ordered alike stay owns steps same =
    let unchanged = other_lines_change_nothing s now n (given longest line) a serves is in
    let others : (h : ℕ) → and-one n line a theirs h ≡ theirs h =
    λ h. and-none n line a theirs h (ap (is_done_to h) is) in
    subst (λ x. AreServedAgain longest g l u own n owns (and-one n line a theirs) (x ∷ journal) (x ∷ journal))
    (sym (not-kept (given longest line) a is))
    (as-theirs longest g l u own n owns theirs (and-one n line a theirs) ([] ∷ journal) (λ h. sym (others h))
    (with-none longest g l u own n owns theirs journal
    (later l own ordered alike (λ h differ. stay h differ ∙ ap (alone h) (sym unchanged)) owns steps
    (same ∙ ap texts_of_lines (others g)))))

-- ---- a line of another network
-- a line of another network in front
with-other : (longest g : ℕ) (l t u own : Live) (n : ℕ) (line : Bytes) (a : LineReply) (owns : List NetworkLine)
    (theirs : ℕ → List NetworkLine) (journal : List Bytes) → Serves l n (given longest line) a t → is_done_to g a.done ≡ false
    → AreServedAgain longest g t u own (n + 1) owns theirs journal journal
    → AreServedAgain longest g l u own n owns (and-one n line a theirs) (line ∷ journal)
    (journal_line (given longest line) a ∷ journal)
with-other longest g l t u own n line a owns theirs journal serves not-its (told, new, rest, is, stay, same, others) = (
  a.text ++ told,
  new,
  next a serves rest,
  is,
  stay,
  subst (AreAllSameButForNumbers owns) (sym (and-none n line a (λ h. lines_of_network h rest) g not-its)) same,
  λ h differ. ap (λ x. if is_done_to h a.done then record { number = n; line = line; reply = a } ∷ x else x) (others h differ),
)

again-other : (longest g : ℕ) (s now u : Live) (n : ℕ) (line : Bytes) (a : LineReply) (d : Done) (theirs : ℕ → List NetworkLine)
    (journal : List Bytes) → IsOrdered s → HasRoomToSpare s → Serves s n (given longest line) a now → a.done ≡ Some d
    → d.network ≢ g → MayBeServedAgain longest g now u (n + 1) theirs journal
    → MayBeServedAgain longest g s u n (and-one n line a theirs) (journal_line (given longest line) a ∷ journal)
again-other longest g s now u n line a d theirs journal first-ordered room serves some apart later l own ordered alike stay
    owns steps same =
    let local = lines_are_local s now n (given longest line) a d first-ordered serves some in
    let here : Serves (alone d.network l) n (given longest line) a (alone d.network now) =
    subst (λ x. Serves x n (given longest line) a (alone d.network now)) (sym (stay d.network apart)) local.0 in
    let lift =
    lines_are_answered_next_to_others l (alone d.network now) n (given longest line) a d ordered
    (room-next-to g s l first-ordered ordered stay room) here some in
    let none-of-it = not-of g a.done d some apart in
    let after : OthersStay g now lift.0 = λ h differ. by lift.0 lift.2 lift.3 local.1 h differ (h == d.network) refl in
    subst
    (λ x. AreServedAgain longest g l u own n owns (and-one n line a theirs) (x ∷ journal)
    (journal_line (given longest line) a ∷ journal))
    (sym (is-kept longest s now n line a d serves some))
    (with-other longest g l lift.0 u own n line a owns theirs journal lift.1 none-of-it
    (later lift.0 own (hosts_stay_ordered l lift.0 n (given longest line) a ordered lift.1)
    (alike-after l lift.0 n (given longest line) a alike lift.1) after owns
    (subst (λ x. OwnSteps longest g owns x own) (sym (lift.3 g (λ is. apart (sym is)))) steps)
    (same ∙ ap texts_of_lines (and-none n line a theirs g none-of-it))))
  where
    by : (t : Live) → alone d.network t ≡ alone d.network now → OthersStay d.network l t → OthersStay d.network s now
        → (h : ℕ) → h ≢ g → (is : Bool) → (h == d.network) ≡ is → alone h t ≡ alone h now
    by t own-as others were h differ true is =
        subst (λ k. alone k t ≡ alone k now) (sym ((Decides-eqb h d.network).0 is)) own-as
    by t own-as others were h differ false is =
        let not-it : h ≢ d.network = λ e. true≢false (sym ((Decides-eqb h d.network).1 e) ∙ is) in
        others h not-it ∙ stay h differ ∙ sym (were h not-it)

-- ---- a line of the network
pub same-first : (x y : Bytes) (xs ys : List Bytes) → x ∷ xs ≡ y ∷ ys → (x ≡ y) × (xs ≡ ys)
same-first x y xs ys is = (cc, cc)

-- a line of the network in front
with-own : (longest g : ℕ) (l t u own : Live) (n : ℕ) (line : Bytes) (a b : LineReply) (o : NetworkLine) (owns : List NetworkLine)
    (theirs : ℕ → List NetworkLine) (journal : List Bytes) → Serves l n (given longest line) b t → is_done_to g b.done ≡ true
    → ((h : ℕ) → h ≢ g → is_done_to h b.done ≡ false) → ((h : ℕ) → h ≢ g → is_done_to h a.done ≡ false)
    → AreSameButForNumbers o (record { number = n; line = line; reply = b })
    → AreServedAgain longest g t u own (n + 1) owns theirs journal journal
    → AreServedAgain longest g l u own n (o ∷ owns) (and-one n line a theirs) (line ∷ journal)
    (journal_line (given longest line) b ∷ journal)
with-own longest g l t u own n line a b o owns theirs journal serves its not-b not-a one
    (told, new, rest, is, stay, same, others) = (
      b.text ++ told,
      new,
      next b serves rest,
      is,
      stay,
      subst
          (λ is. AreAllSameButForNumbers (o ∷ owns)
          (if is then record { number = n; line = line; reply = b } ∷ lines_of_network g rest else lines_of_network g rest))
          (sym its) (one, same),
      λ h differ. and-none n line b (λ h. lines_of_network h rest) h (not-b h differ) ∙ others h differ
          ∙ sym (and-none n line a theirs h (not-a h differ)),
    )

again-own : (longest g : ℕ) (s now u : Live) (n : ℕ) (line : Bytes) (a : LineReply) (d : Done) (theirs : ℕ → List NetworkLine)
    (journal : List Bytes) → IsOrdered s → HasRoomToSpare s → Serves s n (given longest line) a now → a.done ≡ Some d
    → d.network ≡ g → MayBeServedAgain longest g now u (n + 1) theirs journal
    → MayBeServedAgain longest g s u n (and-one n line a theirs) (journal_line (given longest line) a ∷ journal)
again-own longest g s now u n line a d theirs journal first-ordered room serves some its later l own ordered alike stay []
    steps same =
    let both : [] ≡ line ∷ texts_of_lines (theirs g) =
    same ∙ ap
    (λ b. texts_of_lines (if b then record { number = n; line = line; reply = a } ∷ theirs g else theirs g))
    (of-it g a.done d some its) in
    absurd (cc)
again-own longest g s now u n line a d theirs journal first-ordered room serves some its later l own ordered alike stay
    (o ∷ owns) (then-so, e, served, done, of-g, more) same =
    let both =
    same-first o.line line (texts_of_lines owns) (texts_of_lines (theirs g))
    (same ∙ ap
    (λ b. texts_of_lines (if b then record { number = n; line = line; reply = a } ∷ theirs g else theirs g))
    (of-it g a.done d some its)) in
    let here : Serves (alone e.network l) o.number (given longest line) o.reply then-so =
    subst (λ h. Serves (alone h l) o.number (given longest line) o.reply then-so) (sym of-g)
    (subst (λ x. Serves (alone g l) o.number (given longest x) o.reply then-so) both.0 served) in
    let lift =
    lines_are_answered_next_to_others l then-so o.number (given longest line) o.reply e ordered
    (room-next-to g s l first-ordered ordered stay room) here done in
    let numbered = numbers_stand_in_front l lift.0 o.number (given longest line) o.reply alike lift.1 in
    let b : LineReply = record { text = behind_number n numbered.0; done = o.reply.done } in
    let local = lines_are_local s now n (given longest line) a d first-ordered serves some in
    let after : OthersStay g now lift.0 =
    λ h differ. lift.3 h (λ is. differ (is ∙ of-g)) ∙ stay h differ ∙ sym (local.1 h (λ is. differ (is ∙ its))) in
    subst
    (λ x. AreServedAgain longest g l u own n (o ∷ owns) (and-one n line a theirs) (x ∷ journal) (x ∷ journal))
    (sym (is-kept longest s now n line a d serves some))
    (subst
    (λ x. AreServedAgain longest g l u own n (o ∷ owns) (and-one n line a theirs) (line ∷ journal) (x ∷ journal))
    (is-kept longest l lift.0 n line b e (numbered.2 n) done)
    (with-own longest g l lift.0 u own n line a b o owns theirs journal (numbered.2 n)
    (of-it g o.reply.done e done of-g) (λ h differ. not-of h o.reply.done e done (λ is. differ (sym is ∙ of-g)))
    (λ h differ. not-of h a.done d some (λ is. differ (sym is ∙ its)))
    (record {
      line = sym both.0;
      done = refl;
      rests = numbered.0;
      one_text = numbered.1;
      other_text = refl;
    })
    (later lift.0 own (hosts_stay_ordered l lift.0 n (given longest line) b ordered (numbered.2 n))
    (alike-after l lift.0 n (given longest line) b alike (numbered.2 n)) after owns
    (subst (λ x. OwnSteps longest g owns x own) (sym (subst (λ h. alone h lift.0 ≡ then-so) of-g lift.2)) more) both.1)))

-- ---- all lines
again-at-end : (longest g : ℕ) (s : Live) (n : ℕ) → MayBeServedAgain longest g s s n (λ h. []) []
again-at-end longest g s n l own ordered alike stay [] steps same =
    ([], l, none, sym steps, stay, tt, λ h differ. refl)
again-at-end longest g s n l own ordered alike stay (o ∷ owns) steps same = absurd (cc)

again : (longest g : ℕ) {s u : Live} {n : ℕ} {lines journal : List Bytes} {text : Bytes}
    (other : ServesAll Serves longest s n lines journal text u) → KeepsRoom other → IsOrdered s
    → MayBeServedAgain longest g s u n (λ h. lines_of_network h other) journal
again longest g (none {s} {n}) room first-ordered = again-at-end longest g s n
again longest g (next {s} {t = now} {u} {n} {line} {journal} a serves others) (room, rooms) first-ordered =
    by a.done refl
    (again longest g others rooms (hosts_stay_ordered s now n (given longest line) a first-ordered serves))
  where
    of-it-or-not : (d : Done) → a.done ≡ Some d → (is : Bool) → (d.network == g) ≡ is
        → MayBeServedAgain longest g now u (n + 1) (λ h. lines_of_network h others) journal
        → MayBeServedAgain longest g s u n (and-one n line a (λ h. lines_of_network h others))
        (journal_line (given longest line) a ∷ journal)
    of-it-or-not d some true is later =
        again-own longest g s now u n line a d (λ h. lines_of_network h others) journal first-ordered room serves some
        ((Decides-eqb d.network g).0 is) later
    of-it-or-not d some false is later =
        again-other longest g s now u n line a d (λ h. lines_of_network h others) journal first-ordered room serves some
        (λ e. true≢false (sym ((Decides-eqb d.network g).1 e) ∙ is)) later

    by : (o : Option Done) → a.done ≡ o → MayBeServedAgain longest g now u (n + 1) (λ h. lines_of_network h others) journal
        → MayBeServedAgain longest g s u n (and-one n line a (λ h. lines_of_network h others))
        (journal_line (given longest line) a ∷ journal)
    by None not-any later =
        again-none longest g s now u n line a (λ h. lines_of_network h others) journal serves not-any later
    by (Some d) some later = of-it-or-not d some (d.network == g) refl later

pub networks_are_apart : NetworksAreApart
networks_are_apart longest bytes g n lines journal text t run m other_lines other_journal other_text u other room same =
    again longest g other room (begins-ordered bytes) (new_live bytes) (alone g t) (begins-ordered bytes) (begins-alike bytes)
    (λ h differ. refl) (lines_of_network g run) (steps-of longest g run (begins-ordered bytes)) same
