-- The number of a line stands in front of each line of its block, and nothing else depends on it.
use Rattle.std.specs.Prelude.{◌≡◌, ◌+◌, ◌++◌, ◌∷◌, [], ℕ, Bool, true, false, List, Option, Some, None, codes}
use Rattle.std.specs.List.{flat_map}
use Rattle.std.specs.Fmt.{decimal}
use Rattle.std.proofs.Common.{◌∙◌, refl, sym, ap, subst, inl, inr, append_assoc, append-nil}
use Rattle.scp_types.specs.Statements.{Sent}
use Rattle.scp_types.specs.declared.event.Event.{Event}
use Rattle.scp_types.specs.declared.event.Refusal.{Refusal}
use Rattle.scp_types.specs.declared.event.Refusal.TheVariants.{NoSuchNetwork}
use Rattle.scp_types.specs.declared.kind.Kind.{Kind}
use Rattle.scp_types.specs.declared.kind.Kind.TheVariants.{Nomination}
use Rattle.scp_spec.specs.Networks.Reply.{Refused}
use Rattle.scp_spec.specs.Nodes.{Node}
use Rattle.scp_spec.specs.Rows.{row}
use Rattle.host_network.specs.Standing.{IsStood, Machine, net_of, node_at}
use Rattle.line_script.specs.Script.{Bytes}
use Rattle.line_script.specs.Names.{text_of_name}
use Rattle.live_feed.specs.Served.{LineReply, ServesAll}
use Rattle.live_feed.specs.Served.ServesAll.{next, none}
use Rattle.live_feed.specs.WholeLines.{given}
use Rattle.live_feed.specs.declared.answering.Deed.TheVariants as deed
use Rattle.live_feed.specs.declared.answering.Done.{Done}
use Rattle.line_request.specs.Outlines.{waiting_at}
use Rattle.line_request.specs.declared.ask.Ask.{Ask}
use Rattle.line_request.specs.declared.ask.Ask.TheVariants as ask
use Rattle.live_network.specs.Left.{left_line}
use Rattle.live_network.specs.Shown.{front_of, known_lines, line_of, node_lines, row_line, row_lines, rows_of_sender, silent_line, spaced_name, state_line, text_of_shown_row, value_behind_space, value_lines, values_line}
use Rattle.live_network.specs.State.{text_of_state}
use Rattle.live_network.specs.declared.left.Left.{Left}
use Rattle.live_network.specs.Serving.{Ending, ToldReply}
use Rattle.live_network.specs.Telling.{ending_of, tellings_of}
use Rattle.live_host.specs.Blocks.{block_of, closing_line, closing_of, line_of_telling, text_of_closing, text_of_reply}
use Rattle.live_host.specs.Futures.{AreAlike, AreAllAlike, FuturesAreAlikeButForNumbers, IsAlike, NumbersStandInFront, behind_number, behind_numbers}
use Rattle.live_host.specs.Hosts.{AreAllAnswered, IsAnswerTo, IsAnsweredOnceBegun, IsAnsweredThen, IsAskAnswered, IsBadLine, IsEventAnswered, IsLeftText, IsNodeText, IsShown, IsShownOf, Live, Serves, block_of_answers, closing_of_answers, closing_of_declaration, closing_of_drop, deed_of, deed_of_all, done_if, drawn, left_at, lines_of_answer, lines_of_answers, lines_of_node, live_at, not_shown, not_there, slot_of_answers}
use Rattle.live_host.specs.declared.all.NodeAnswer.{NodeAnswer}
use Rattle.live_host.specs.declared.block.Closing.{Closing}
use Rattle.live_host.specs.declared.block.Closing.TheVariants as closing
use Rattle.live_host.proofs.AlikeHosts.{alike_hosts_answer_alike, alike_both_ways, begun-network-alike, found}
use Rattle.live_host.proofs.AlikeMachines.{all-alike-themselves, one-found}

-- ---- texts by the number of a line
numbered-both : (n : ℕ) (xs ys : List Bytes) → behind_number n (xs ++ ys) ≡ behind_number n xs ++ behind_number n ys
numbered-both n [] ys = refl
numbered-both n (x ∷ xs) ys =
    ap (λ t. (decimal n ++ 32 ∷ x) ++ t) (numbered-both n xs ys)
    ∙ sym (append_assoc (decimal n ++ 32 ∷ x) (behind_number n xs) (behind_number n ys))

-- a text has the number in front of each of its parts, and nowhere else
abbrev IsNumbered : (ℕ → Bytes) → Type 0
IsNumbered f = (rests : List Bytes) × ((k : ℕ) → f k ≡ behind_number k rests)

none-numbered : IsNumbered (λ k. [])
none-numbered = ([], λ k. refl)

one-numbered : (rest : Bytes) → IsNumbered (λ k. decimal k ++ 32 ∷ rest)
one-numbered rest = (rest ∷ [], λ k. sym (append-nil (decimal k ++ 32 ∷ rest)))

line-numbered : (front words : Bytes) → IsNumbered (λ k. (decimal k ++ 32 ∷ front) ++ words)
line-numbered front words =
    let one = one-numbered (front ++ words) in
    (one.0, λ k. append_assoc (decimal k) (32 ∷ front) words ∙ one.1 k)

both-numbered : (f g : ℕ → Bytes) → IsNumbered f → IsNumbered g → IsNumbered (λ k. f k ++ g k)
both-numbered f g one other = (
  one.0 ++ other.0,
  λ k. ap (λ t. t ++ g k) (one.1 k) ∙ ap (λ t. behind_number k one.0 ++ t) (other.1 k) ∙ sym (numbered-both k one.0 other.0),
)

all-numbered : {X : Type 0} (f : ℕ → X → Bytes) → ((x : X) → IsNumbered (λ k. f k x)) → (xs : List X)
    → IsNumbered (λ k. flat_map (f k) xs)
all-numbered f each [] = none-numbered
all-numbered f each (x ∷ xs) =
    both-numbered (λ k. f k x) (λ k. flat_map (f k) xs) (each x) (all-numbered f each xs)

-- ---- blocks
closing-numbered : (c : Closing) → IsNumbered (λ k. closing_line k c)
closing-numbered c = one-numbered (text_of_closing c ++ 10 ∷ [])

telling-numbered : (bytes : Bool) (g i : ℕ) (t : ToldReply) → IsNumbered (λ k. line_of_telling bytes k g i t)
telling-numbered bytes g i t =
    line-numbered (decimal g ++ 32 ∷ (decimal i ++ 32 ∷ text_of_name t.node)) (text_of_reply bytes t.reply ++ 10 ∷ [])

block-numbered : (bytes : Bool) (g i : ℕ) (told : List ToldReply) (ending : Ending)
    → IsNumbered (λ k. block_of bytes k g i told ending)
block-numbered bytes g i told ending =
    both-numbered (λ k. flat_map (line_of_telling bytes k g i) told) (λ k. closing_line k (closing_of ending))
    (all-numbered (λ k. line_of_telling bytes k g i) (telling-numbered bytes g i) told) (closing-numbered (closing_of ending))

answer-numbered : (bytes : Bool) (g i : ℕ) (a : NodeAnswer) → IsNumbered (λ k. lines_of_answer bytes k g i a)
answer-numbered bytes g i a = by a.served.refused
  where
    by : (r : Option Refusal) → IsNumbered (λ k. lines_of_node r bytes k g i a)
    by None = all-numbered (λ k. line_of_telling bytes k g i) (telling-numbered bytes g i) (tellings_of a.served.told.items)
    by (Some r) = telling-numbered bytes g i (record { node = a.node; reply = Refused r })

answers-numbered : (bytes : Bool) (g : ℕ) (answers : List NodeAnswer)
    → IsNumbered (λ k. block_of_answers bytes k g answers)
answers-numbered bytes g answers =
    both-numbered (λ k. lines_of_answers (slot_of_answers answers) bytes k g answers)
    (λ k. closing_line k (closing_of_answers answers)) (by (slot_of_answers answers)) (closing-numbered (closing_of_answers answers))
  where
    by : (o : Option ℕ) → IsNumbered (λ k. lines_of_answers o bytes k g answers)
    by None = none-numbered
    by (Some i) = all-numbered (λ k. lines_of_answer bytes k g i) (answer-numbered bytes g i) answers

left-numbered : (g : ℕ) (l : Left) → IsNumbered (λ k. left_line k g l)
left-numbered g l = one-numbered _

-- ---- what is shown of a node
-- what each of its lines has behind the number
abbrev rest-of-front : ℕ → ℕ → ℕ → Bytes
rest-of-front g i u = decimal g ++ 32 ∷ (decimal i ++ 32 ∷ (text_of_name u ++ 32 ∷ []))

line-of-numbered : (g i u : ℕ) (words : Bytes) → IsNumbered (λ k. line_of (front_of k g i u) words)
line-of-numbered g i u words = line-numbered (rest-of-front g i u) (words ++ 10 ∷ [])

values-line-numbered : (g i u : ℕ) (word : Bytes) (vs : List Bytes)
    → IsNumbered (λ k. values_line (front_of k g i u) word vs)
unfolding values_line
values-line-numbered g i u word vs = line-of-numbered g i u (word ++ flat_map value_behind_space vs)

row-line-numbered : (g i u : ℕ) (o : Option Sent) → IsNumbered (λ k. row_line (front_of k g i u) o)
row-line-numbered g i u None = none-numbered
row-line-numbered g i u (Some e) = line-of-numbered g i u (text_of_shown_row e)

sender-numbered : (g i u : ℕ) (table : List Sent) (w : ℕ)
    → IsNumbered (λ k. rows_of_sender (front_of k g i u) table w)
sender-numbered g i u table w =
    both-numbered (λ k. row_line (front_of k g i u) (row table w Nomination))
    (λ k. row_line (front_of k g i u) (row table w Kind.Ballot))
    (row-line-numbered g i u (row table w Nomination)) (row-line-numbered g i u (row table w Kind.Ballot))

shown-numbered : (g i : ℕ) (n : Node) (us : List ℕ) → IsNumbered (λ k. node_lines (front_of k g i n.name) n us)
shown-numbered g i n us =
    both-numbered (λ k. known_lines (front_of k g i n.name) n) (λ k. silent_line (front_of k g i n.name) us)
    (both-numbered (λ k. state_line (front_of k g i n.name) n)
    (λ k. value_lines (front_of k g i n.name) n.votes ++ row_lines (front_of k g i n.name) n.table)
    (line-of-numbered g i n.name (text_of_state n))
    (both-numbered (λ k. value_lines (front_of k g i n.name) n.votes) (λ k. row_lines (front_of k g i n.name) n.table)
    (both-numbered (λ k. values_line (front_of k g i n.name) (codes "voted") n.votes.voted)
    (λ k. values_line (front_of k g i n.name) (codes "accepted") n.votes.accepts
    ++ values_line (front_of k g i n.name) (codes "confirmed") n.votes.confirms)
    (values-line-numbered g i n.name (codes "voted") n.votes.voted)
    (both-numbered (λ k. values_line (front_of k g i n.name) (codes "accepted") n.votes.accepts)
    (λ k. values_line (front_of k g i n.name) (codes "confirmed") n.votes.confirms)
    (values-line-numbered g i n.name (codes "accepted") n.votes.accepts)
    (values-line-numbered g i n.name (codes "confirmed") n.votes.confirms)))
    (all-numbered (λ k. rows_of_sender (front_of k g i n.name) n.table) (sender-numbered g i n.name n.table) _)))
    (line-of-numbered g i n.name (codes "silent" ++ flat_map spaced_name us))

-- ---- answers
-- what holds of a text that has one number in front of its parts holds of it with any other
abbrev HoldsByNumber : (ℕ → Bytes → Type 0) → ℕ → Bytes → Type 0
HoldsByNumber holds n text =
    (rests : List Bytes) × (text ≡ behind_number n rests) × ((k : ℕ) → holds k (behind_number k rests))

is-by-number : (f : ℕ → Bytes) → IsNumbered f → (n : ℕ) (text : Bytes) → text ≡ f n → HoldsByNumber (λ k t. t ≡ f k) n text
is-by-number f numbered n text is = (numbered.0, is ∙ numbered.1 n, λ k. sym (numbered.1 k))

-- the same of a whole reply
abbrev AnswersByNumber : (ℕ → Live → LineReply → Live → Type 0) → Type 0
AnswersByNumber answers =
    (n : ℕ) (old new : Live) (a : LineReply) → AreAllAlike old.running old.running → answers n old a new
    → HoldsByNumber (λ k t. answers k old (record { text = t; done = a.done }) new) n a.text

-- the reply with this text that did this
abbrev reply_with : Bytes → Option Done → LineReply
reply_with text did = record { text = text; done = did }

reply-by-number : (f : ℕ → Bytes) → IsNumbered f → (n : ℕ) (a : LineReply) (did : Option Done)
    → a ≡ reply_with (f n) did → HoldsByNumber (λ k t. reply_with t a.done ≡ reply_with (f k) did) n a.text
reply-by-number f numbered n a did is = (
  numbered.0,
  ap (λ x. x.text) is ∙ numbered.1 n,
  λ k. ap (λ t. reply_with t a.done) (sym (numbered.1 k))
      ∙ ap (reply_with (f k)) (ap (λ x. x.done) is),
)

bad-by-number : AnswersByNumber IsBadLine
bad-by-number n old new a stands (is, same) =
    let by = reply-by-number (λ k. closing_line k closing.Bad) (closing-numbered closing.Bad) n a None is in
    (by.0, by.1, λ k. (by.2 k, same))

event-by-number : (g : ℕ) (e : Event) → AnswersByNumber (λ n. IsEventAnswered n g e)
event-by-number g e n old new a stands (None, at, (is, same)) =
    let c : Closing = closing.Refused NoSuchNetwork in
    let by = reply-by-number (λ k. closing_line k c) (closing-numbered c) n a None is in
    (by.0, by.1, λ k. (None, at, (by.2 k, same)))
event-by-number g e n old new a stands (Some m, at, (after, s, serves, is, says)) =
    let by =
    reply-by-number (λ k. block_of old.bytes k g s.slot (tellings_of s.told.items) (ending_of s))
    (block-numbered old.bytes g s.slot (tellings_of s.told.items) (ending_of s)) n a
    (Some (record { network = g; deed = deed_of e s (drawn m after) })) says in
    (by.0, by.1, λ k. (Some m, at, (after, s, serves, is, by.2 k)))

all-by-number : (g : ℕ) (bytes : Bytes) → AnswersByNumber (λ n. AreAllAnswered n g bytes)
all-by-number g bytes n old new a stands (None, at, (is, same)) =
    let c : Closing = closing.Refused NoSuchNetwork in
    let by = reply-by-number (λ k. closing_line k c) (closing-numbered c) n a None is in
    (by.0, by.1, λ k. (None, at, (by.2 k, same)))
all-by-number g bytes n old new a stands (Some m, at, (after, answers, serves, is, says)) =
    let by =
    reply-by-number (λ k. block_of_answers old.bytes k g answers) (answers-numbered old.bytes g answers) n a
    (Some (record { network = g; deed = deed_of_all (slot_of_answers answers) (drawn m after) })) says in
    (by.0, by.1, λ k. (Some m, at, (after, answers, serves, is, by.2 k)))

then-by-number : (is : Bool) (answers : ℕ → Live → LineReply → Live → Type 0) → AnswersByNumber answers
    → AnswersByNumber (λ n. IsAnsweredThen is n (answers n))
then-by-number true answers law n old new a stands answered = law n old new a stands answered
then-by-number false answers law n old new a stands answered = bad-by-number n old new a stands answered

once-begun-by-number : (g : ℕ) (answers : ℕ → Live → LineReply → Live → Type 0) → AnswersByNumber answers
    → AnswersByNumber (λ n. IsAnsweredOnceBegun n g (answers n))
once-begun-by-number g answers law n old new a stands (is, now, begins, answered) =
    let begin = begun-network-alike g is old now old.running stands begins in
    let by = then-by-number is answers law n now new a (all-alike-themselves begin.1) answered in
    (by.0, by.1, λ k. (is, now, begins, by.2 k))

left-by-number : (n g : ℕ) (o : Option Left) (text : Bytes) → IsLeftText n g o text
    → HoldsByNumber (λ k t. IsLeftText k g o t) n text
left-by-number n g None text is =
    is-by-number (λ k. closing_line k (closing.Refused NoSuchNetwork))
    (closing-numbered (closing.Refused NoSuchNetwork)) n text is
left-by-number n g (Some left) text is =
    is-by-number (λ k. left_line k g left ++ closing_line k closing.Taken)
    (both-numbered (λ k. left_line k g left) (λ k. closing_line k closing.Taken) (left-numbered g left)
    (closing-numbered closing.Taken)) n text is

node-by-number : (n g i : ℕ) (why : Refusal) (o : Option Node) (text : Bytes) → IsNodeText n g i why o text
    → HoldsByNumber (λ k t. IsNodeText k g i why o t) n text
node-by-number n g i why None text is =
    is-by-number (λ k. closing_line k (closing.Refused why)) (closing-numbered (closing.Refused why)) n text is
node-by-number n g i why (Some u) text (lines, (us, silent, are), is) =
    let by =
    is-by-number (λ k. node_lines (front_of k g i u.name) u us ++ closing_line k closing.Taken)
    (both-numbered (λ k. node_lines (front_of k g i u.name) u us) (λ k. closing_line k closing.Taken)
    (shown-numbered g i u us) (closing-numbered closing.Taken)) n text
    (is ∙ ap (λ t. t ++ closing_line n closing.Taken) are) in
    (by.0, by.1, λ k. (node_lines (front_of k g i u.name) u us, (us, silent, refl), by.2 k))

shown-by-number : (n g i u : ℕ) (m : Machine) (text : Bytes) → IsStood m → IsShownOf n g i u m text
    → HoldsByNumber (λ k t. IsShownOf k g i u m t) n text
shown-by-number n g i u m text (draws, tallied) shown =
    let why : Refusal = not_there m.config u in
    let by =
    node-by-number n g i why (node_at (net_of m draws) i u) text
    (shown (net_of m draws) (record { is = refl; tallied = tallied })) in (
      by.0,
      by.1,
      λ k net stands. subst (λ x. IsNodeText k g i why (node_at x i u) (behind_number k by.0)) (sym stands.is) (by.2 k),
    )

stood : (m n : Machine) → IsAlike m n → IsStood m
stood m n (d, e, alike) = subst IsStood (sym alike.one_is) alike.stood

shows-by-number : (n g i u : ℕ) (l : Live) (text : Bytes) → AreAllAlike l.running l.running → IsShown n g i u l text
    → HoldsByNumber (λ k t. IsShown k g i u l t) n text
shows-by-number n g i u l text stands (None, at, is) =
    let c : Closing = closing.Refused (not_shown (waiting_at l.waiting g) u) in
    let by = is-by-number (λ k. closing_line k c) (closing-numbered c) n text is in
    (by.0, by.1, λ k. (None, at, by.2 k))
shows-by-number n g i u l text stands (Some m, at, shown) =
    let other = one-found (live_at l g) (live_at l g) m (found l l.running g stands) at in
    let by = shown-by-number n g i u m text (stood m other.0 other.2) shown in
    (by.0, by.1, λ k. (Some m, at, by.2 k))

answer-by-number : (g : ℕ) (asked : Ask) → AnswersByNumber (λ n. IsAskAnswered n g asked)
answer-by-number g (ask.Declare d) n old new a stands (taken, declares, is) =
    let c : Closing = closing_of_declaration taken in
    let by = reply-by-number (λ k. closing_line k c) (closing-numbered c) n a (done_if taken g deed.Declared) is in
    (by.0, by.1, λ k. (taken, declares, by.2 k))
answer-by-number g (ask.Serve e) n old new a stands answered =
    once-begun-by-number g (λ n. IsEventAnswered n g e) (event-by-number g e) n old new a stands answered
answer-by-number g (ask.ForAll bytes) n old new a stands answered =
    once-begun-by-number g (λ n. AreAllAnswered n g bytes) (all-by-number g bytes) n old new a stands answered
answer-by-number g ask.Left n old new a stands (text, not-kept, is) =
    let by = left-by-number n g (left_at old g) a.text text in
    (by.0, by.1, λ k. (by.2 k, not-kept, is))
answer-by-number g (ask.Show i u) n old new a stands (text, not-kept, is) =
    let by = shows-by-number n g i u old a.text stands text in
    (by.0, by.1, λ k. (by.2 k, not-kept, is))
answer-by-number g ask.Drop n old new a stands (taken, drops, is) =
    let c : Closing = closing_of_drop taken in
    let by = reply-by-number (λ k. closing_line k c) (closing-numbered c) n a (done_if taken g deed.Dropped) is in
    (by.0, by.1, λ k. (taken, drops, by.2 k))

asked-by-number : (asked : Option (ℕ × Ask)) → AnswersByNumber (λ n. IsAnswerTo n asked)
asked-by-number None n old new a stands answered = bad-by-number n old new a stands answered
asked-by-number (Some asked) n old new a stands answered = answer-by-number asked.0 asked.1 n old new a stands answered

line-by-number : (line : Option Bytes) → AnswersByNumber (λ n old a new. Serves old n line a new)
line-by-number None n old new a stands answered = bad-by-number n old new a stands answered
line-by-number (Some line) n old new a stands (inl (skipped, is, same)) =
    let by = reply-by-number (λ k. []) none-numbered n a None is in
    (by.0, by.1, λ k. inl (skipped, by.2 k, same))
line-by-number (Some line) n old new a stands (inr (runs, inl (bad, answered))) =
    let by = bad-by-number n old new a stands answered in
    (by.0, by.1, λ k. inr (runs, inl (bad, by.2 k)))
line-by-number (Some line) n old new a stands (inr (runs, inr (fields, are, (asked, of, answered)))) =
    let by = asked-by-number asked n old new a stands answered in
    (by.0, by.1, λ k. inr (runs, inr (fields, are, (asked, of, by.2 k))))

pub numbers_stand_in_front : NumbersStandInFront
numbers_stand_in_front l new n line a stands serves = line-by-number line n l new a stands.running serves

futures-by-number : (longest : ℕ) {l : Live} {n : ℕ} {lines journal : List Bytes} {text : Bytes} {new : Live}
    → ServesAll Serves longest l n lines journal text new → (other : Live) → AreAlike l other
    → (blocks : List (List Bytes)) × (other_new : Live) × (text ≡ behind_numbers n blocks) × AreAlike new other_new
    × ((k : ℕ) → ServesAll Serves longest other k lines journal (behind_numbers k blocks) other_new)
futures-by-number longest none other alike = ([], other, refl, alike, λ k. none)
futures-by-number longest (next {s = l} {t = now} {n} {line} {others} a serves more) other alike =
    let here = alike_hosts_answer_alike l other now n (given longest line) a alike serves in
    let itself : AreAlike other other =
    record { bytes = refl; waiting = refl; running = all-alike-themselves (alike_both_ways l other alike).running } in
    let by = numbers_stand_in_front other here.0 n (given longest line) a itself here.1 in
    let rest = futures-by-number longest more here.0 here.2 in (
      by.0 ∷ rest.0,
      rest.1,
      ap (λ t. t ++ others) by.1 ∙ ap (λ t. behind_number n by.0 ++ t) rest.2,
      rest.3,
      λ k. next (record { text = behind_number k by.0; done = a.done }) (by.2 k) (rest.4 (k + 1)),
    )

pub futures_are_alike_but_for_numbers : FuturesAreAlikeButForNumbers
futures_are_alike_but_for_numbers longest l other new n lines journal text alike serves =
    futures-by-number longest serves other alike
