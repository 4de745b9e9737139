-- Words behind a command: what they are read as fits, and nothing else does.
use Rattle.std.proofs.Common.{◌≡◌, ◌≢◌, ◌∙◌, ◌+◌, ◌<◌, ◌≤◌, suc, map, inl, inr, ℕ, Bool, true, false, List, [], ◌∷◌, ◌++◌, Some, None, refl, sym, ap, subst, codes, take, drop, length, arith}
use Rattle.std.specs.Prelude.{◌&&◌, ◌==◌, if◌then◌else◌}
use Rattle.std.specs.List.{list_all}
use Rattle.std.specs.Str.{bytes_eq}
use Rattle.std.proofs.lemmas.Slice.Eq.{bytes_eq-Decides}
use Rattle.std.proofs.lemmas.List.{append-nil, drop-map, take-append-drop, take-map}
use Rattle.scp_types.proofs.Bools.{both, join, not_is}
use Rattle.scphost_words.specs.Words.{Text, AreOperands, is_no_option, operands_in, operand_count}
use Rattle.scphost_words.specs.Options.{AreOptions, HasForm, behind_front, journal_option, no_options, option_in}
use Rattle.scphost_words.specs.Options.AreOptions.{none, more}
use Rattle.scphost_words.specs.declared.command.Command.{Command}
use Rattle.scphost_words.specs.declared.command.Command.TheVariants as command
use Rattle.scphost_words.specs.declared.options.Options.{Options}

-- ---- operands

-- an operand that is no option is no word with two hyphens in front
no_option : (word end : Text) → is_no_option word ≡ true → bytes_eq word (45 ∷ 45 ∷ end) ≡ false
no_option [] end e = refl
no_option (x ∷ []) end e = elim (x == 45) as (λ b. (b && false) ≡ false) [ true ↦ refl | false ↦ refl ]
no_option (x ∷ y ∷ rest) end e = simp (not_is (x == 45) e)

found_operands : (word : Text) (rest operands : List Text) (is_end all_plain : Bool)
    → bytes_eq word (codes "--") ≡ is_end → list_all is_no_option (word ∷ rest) ≡ all_plain
    → (if is_end then Some rest else (if all_plain then Some (word ∷ rest) else None)) ≡ Some operands
    → AreOperands (word ∷ rest) operands
found_operands word rest operands true all_plain ends plain e =
    let word_is : word ≡ codes "--" = (bytes_eq-Decides word (codes "--")).0 ends in
    let rest_is : rest ≡ operands = cc in
    inr (cc)
found_operands word rest operands false true ends plain e =
    let operands_are : word ∷ rest ≡ operands = cc in
    inl (operands_are, subst (λ xs. list_all is_no_option xs ≡ true) operands_are plain)
found_operands word rest operands false false ends plain e = cc

operands_found : (words operands : List Text) → operands_in words ≡ Some operands → AreOperands words operands
operands_found [] operands e =
    let operands_are : [] ≡ operands = cc in
    inl (operands_are, subst (λ xs. list_all is_no_option xs ≡ true) operands_are refl)
operands_found (word ∷ rest) operands e = found_operands word rest operands
    (bytes_eq word (codes "--")) (list_all is_no_option (word ∷ rest)) refl refl e

plain_operands : (words : List Text) → list_all is_no_option words ≡ true → operands_in words ≡ Some words
plain_operands [] e = refl
plain_operands (word ∷ rest) e = rw (no_option word [] (both (is_no_option word) (list_all is_no_option rest) e).0, e) refl

all_operands : (words operands : List Text) → AreOperands words operands → operands_in words ≡ Some operands
all_operands words operands (inl p) = subst (λ ws. operands_in ws ≡ Some operands) (sym p.0) (plain_operands operands p.1)
all_operands words operands (inr e) = subst (λ ws. operands_in ws ≡ Some operands) (sym e) refl

-- ---- where options end

plain_workers : (word : Text) → is_no_option word ≡ true → behind_front (codes "--workers") word ≡ None
plain_workers [] e = refl
plain_workers (x ∷ []) e = elim (x == 45) as (λ b. (if b && false then Some (drop 9 (x ∷ [])) else None) ≡ None) [ true ↦ refl | false ↦ refl ]
plain_workers (x ∷ y ∷ rest) e = simp (not_is (x == 45) e)

plain_format : (word : Text) → is_no_option word ≡ true → behind_front (codes "--format") word ≡ None
plain_format [] e = refl
plain_format (x ∷ []) e = elim (x == 45) as (λ b. (if b && false then Some (drop 8 (x ∷ [])) else None) ≡ None) [ true ↦ refl | false ↦ refl ]
plain_format (x ∷ y ∷ rest) e = simp (not_is (x == 45) e)

plain_journal : (word : Text) → is_no_option word ≡ true → behind_front (codes "--journal") word ≡ None
plain_journal [] e = refl
plain_journal (x ∷ []) e = elim (x == 45) as (λ b. (if b && false then Some (drop 9 (x ∷ [])) else None) ≡ None) [ true ↦ refl | false ↦ refl ]
plain_journal (x ∷ y ∷ rest) e = simp (not_is (x == 45) e)

plain_from : (word : Text) → is_no_option word ≡ true → behind_front (codes "--from") word ≡ None
plain_from [] e = refl
plain_from (x ∷ []) e = elim (x == 45) as (λ b. (if b && false then Some (drop 6 (x ∷ [])) else None) ≡ None) [ true ↦ refl | false ↦ refl ]
plain_from (x ∷ y ∷ rest) e = simp (not_is (x == 45) e)

plain_replay : (asked : Options) (word : Text) (rest : List Text) → is_no_option word ≡ true → journal_option asked (word ∷ rest) ≡ None
plain_replay asked word rest e = rw (plain_journal word e, plain_from word e) refl

ended_plain : (c : Command) (asked : Options) (word : Text) (rest : List Text) → is_no_option word ≡ true → option_in c asked (word ∷ rest) ≡ None
ended_plain command.Table asked word rest e = rw (no_option word (codes "explain") e) refl
ended_plain command.Run asked word rest e = rw (plain_workers word e, no_option word (codes "explain") e) refl
ended_plain command.Closure asked word rest e = rw (plain_format word e, no_option word (codes "explain") e) refl
ended_plain command.Compare asked word rest e = rw (no_option word (codes "explain") e) refl
ended_plain command.Crowd asked word rest e = rw (no_option word (codes "explain") e) refl
ended_plain command.Serve asked word rest e =
    rw (plain_workers word e, plain_replay asked word rest e, no_option word (codes "bytes") e, no_option word (codes "explain") e) refl
ended_plain command.Compact asked word rest e = refl
ended_plain command.Encode asked word rest e = refl
ended_plain command.Decode asked word rest e = refl

ended_dashes : (c : Command) (asked : Options) (rest : List Text) → option_in c asked (codes "--" ∷ rest) ≡ None
ended_dashes command.Table asked rest = refl
ended_dashes command.Run asked rest = refl
ended_dashes command.Closure asked rest = refl
ended_dashes command.Compare asked rest = refl
ended_dashes command.Crowd asked rest = refl
ended_dashes command.Serve asked rest = refl
ended_dashes command.Compact asked rest = refl
ended_dashes command.Encode asked rest = refl
ended_dashes command.Decode asked rest = refl

ended_empty : (c : Command) (asked : Options) → option_in c asked [] ≡ None
ended_empty command.Table asked = refl
ended_empty command.Run asked = refl
ended_empty command.Closure asked = refl
ended_empty command.Compare asked = refl
ended_empty command.Crowd asked = refl
ended_empty command.Serve asked = refl
ended_empty command.Compact asked = refl
ended_empty command.Encode asked = refl
ended_empty command.Decode asked = refl

ended_operands : (c : Command) (asked : Options) (words operands : List Text) → AreOperands words operands → option_in c asked words ≡ None
ended_operands c asked words [] (inl p) = subst (λ ws. option_in c asked ws ≡ None) (sym p.0) (ended_empty c asked)
ended_operands c asked words (o ∷ os) (inl p) =
    subst (λ ws. option_in c asked ws ≡ None) (sym p.0) (ended_plain c asked o os (both (is_no_option o) (list_all is_no_option os) p.1).0)
ended_operands c asked words operands (inr e) = subst (λ ws. option_in c asked ws ≡ None) (sym e) (ended_dashes c asked operands)

-- ---- the options are one way alone

-- from words that go on with no option nothing is read
stays : (c : Command) (asked all : Options) (words last : List Text) → AreOptions c asked words all last → option_in c asked words ≡ None → (all ≡ asked) × (last ≡ words)
stays c asked all words last none e = (refl, refl)
stays c asked all words last (more is rest) e = cc

same : (c : Command) (asked a b : Options) (words l m : List Text) → AreOptions c asked words a l → AreOptions c asked words b m
    → option_in c a l ≡ None → option_in c b m ≡ None → (a ≡ b) × (l ≡ m)
same c asked a b words l m none other e f = let h = stays c asked b words m other e in (sym h.0, sym h.1)
same c asked a b words l m (more {next = n} {rest = r} is chain) none e f = cc
same c asked a b words l m (more {next = n} {rest = r} is chain) (more {next = n'} {rest = r'} is' chain') e f =
    let found : Some (n', r') ≡ Some (n, r) = sym is' ∙ is in
    let pair : (n', r') ≡ (n, r) = cc in
    same c n a b r l m chain (subst (λ (z : Options × List Text). AreOptions c z.0 z.1 b m) pair chain') e f

-- ---- options in front

before : (c : Command) (words : List Text) (asked : Options) (operands : List Text) → operand_count words ≡ 0 → HasForm c words asked operands
    → (rest : List Text) × AreOptions c no_options words asked rest × AreOperands rest operands
before c words asked operands few (inl h) = h
before c words asked [] few (inr (rest, is, plain, chain)) =
    ([], subst (λ ws. AreOptions c no_options ws asked []) (sym is) chain, inl (refl, refl))
before c words asked (o ∷ os) few (inr (rest, is, plain, chain)) =
    let first : is_no_option o ≡ true = (both (is_no_option o) (list_all is_no_option os) plain).0 in
    let one : operand_count (o ∷ (os ++ rest)) ≡ operand_count (os ++ rest) + 1 = rw first refl in
    let count : operand_count words ≡ operand_count (os ++ rest) + 1 = ap operand_count is ∙ one in
    absurd (omega (arith, few, count))

front_all : (c : Command) (words rest : List Text) (found : Options) → operand_count words ≡ 0 → AreOptions c no_options words found rest
    → option_in c found rest ≡ None → (asked : Options) (operands : List Text) → HasForm c words asked operands
    → (found ≡ asked) × (operands_in rest ≡ Some operands)
front_all c words rest found few chain ended asked operands h =
    let (other, chain', are) = before c words asked operands few h in
    let one = same c no_options found asked words rest other chain chain' ended (ended_operands c asked other operands are) in
    (one.0, ap operands_in one.1 ∙ all_operands other operands are)

-- ---- operands in front

front_plain : (words : List Text) → list_all is_no_option (take (operand_count words) words) ≡ true
front_plain [] = refl
front_plain (word ∷ rest) = by_first (is_no_option word) refl (front_plain rest)
  where
    by_first : (b : Bool) → is_no_option word ≡ b → list_all is_no_option (take (operand_count rest) rest) ≡ true
        → list_all is_no_option (take (operand_count (word ∷ rest)) (word ∷ rest)) ≡ true
    by_first true e later =
        let count : operand_count (word ∷ rest) ≡ suc (operand_count rest) = rw e (omega arith) in
        subst (λ n. list_all is_no_option (take n (word ∷ rest)) ≡ true) (sym count) (join (is_no_option word) (list_all is_no_option (take (operand_count rest) rest)) e later)
    by_first false e later =
        let count : operand_count (word ∷ rest) ≡ 0 = rw e refl in
        subst (λ n. list_all is_no_option (take n (word ∷ rest)) ≡ true) (sym count) refl

-- options begin with no operand
no_plain : (c : Command) (asked all : Options) (words : List Text) → AreOptions c asked words all [] → operand_count words ≡ 0
no_plain c asked all [] chain = refl
no_plain c asked all (word ∷ rest) (more is chain) = by_first (is_no_option word) refl
  where
    by_first : (b : Bool) → is_no_option word ≡ b → operand_count (word ∷ rest) ≡ 0
    by_first true e = let ended = ended_plain c asked word rest e in cc
    by_first false e = rw e refl

whole_front : (operands rest : List Text) → list_all is_no_option operands ≡ true → operand_count rest ≡ 0
    → (take (operand_count (operands ++ rest)) (operands ++ rest) ≡ operands) × (drop (operand_count (operands ++ rest)) (operands ++ rest) ≡ rest)
whole_front [] rest plain few = rw few (refl, refl)
whole_front (o ∷ os) rest plain few =
    let both_plain = both (is_no_option o) (list_all is_no_option os) plain in
    let count : operand_count (o ∷ (os ++ rest)) ≡ suc (operand_count (os ++ rest)) = rw (both_plain.0) (omega arith) in
    let h = whole_front os rest both_plain.1 few in
    subst (λ n. (take n (o ∷ (os ++ rest)) ≡ o ∷ os) × (drop n (o ∷ (os ++ rest)) ≡ rest)) (sym count) (ap (λ ws. o ∷ ws) h.0, h.1)

behind_found : (c : Command) (words : List Text) (asked : Options) → AreOptions c no_options (drop (operand_count words) words) asked []
    → HasForm c words asked (take (operand_count words) words)
behind_found c words asked chain =
    inr (drop (operand_count words) words, sym (take-append-drop (operand_count words) words), front_plain words, chain)

-- with operands in front, all options are behind them
after : (c : Command) (words : List Text) (asked : Options) (operands : List Text) → operand_count words ≢ 0 → HasForm c words asked operands
    → (rest : List Text) × (words ≡ operands ++ rest) × (list_all is_no_option operands ≡ true) × AreOptions c no_options rest asked []
after c words asked operands some (inr h) = h
after c [] asked operands some (inl h) = absurd (some refl)
after c (word ∷ tail) asked operands some (inl (rest, chain, are)) = by_first (is_no_option word) refl
  where
    by_operands : AreOperands (word ∷ tail) operands → asked ≡ no_options
        → (rest : List Text) × (word ∷ tail ≡ operands ++ rest) × (list_all is_no_option operands ≡ true) × AreOptions c no_options rest asked []
    by_operands (inl p) is = ([], p.0 ∙ sym (append-nil operands), p.1, subst (λ o. AreOptions c no_options [] o []) (sym is) none)
    by_operands (inr e) is = absurd (some (ap operand_count e))

    by_first : (b : Bool) → is_no_option word ≡ b
        → (rest : List Text) × (word ∷ tail ≡ operands ++ rest) × (list_all is_no_option operands ≡ true) × AreOptions c no_options rest asked []
    by_first true e =
        let h = stays c no_options asked (word ∷ tail) rest chain (ended_plain c no_options word tail e) in
        by_operands (subst (λ ws. AreOperands ws operands) h.1 are) h.0
    by_first false e = absurd (some (rw e refl))

behind_all : (c : Command) (words left : List Text) (found : Options) → operand_count words ≢ 0
    → AreOptions c no_options (drop (operand_count words) words) found left → option_in c found left ≡ None
    → (asked : Options) (operands : List Text) → HasForm c words asked operands
    → (found ≡ asked) × (left ≡ []) × (take (operand_count words) words ≡ operands)
behind_all c words left found some chain ended asked operands h =
    let (rest, is, plain, chain') = after c words asked operands some h in
    let front = whole_front operands rest plain (no_plain c no_options asked rest chain') in
    let operands_are : take (operand_count words) words ≡ operands = subst (λ ws. take (operand_count ws) ws ≡ operands) (sym is) front.0 in
    let rest_is : drop (operand_count words) words ≡ rest = subst (λ ws. drop (operand_count ws) ws ≡ rest) (sym is) front.1 in
    let moved : AreOptions c no_options rest found left = subst (λ ws. AreOptions c no_options ws found left) rest_is chain in
    let one = same c no_options found asked rest left [] moved chain' ended (ended_empty c asked) in
    (one.0, one.1, operands_are)

-- ---- the same of words as they are read

pub front_read : (c : Command) (words rest given : List Text) (start found : Options) (count : ℕ) → start ≡ no_options
    → count ≡ operand_count words → count ≡ 0 → AreOptions c start words found rest → option_in c found rest ≡ None
    → Some given ≡ operands_in rest → (asked : Options) (operands : List Text) → HasForm c words asked operands
    → (found ≡ asked) × (given ≡ operands)
front_read c words rest given start found count nothing counted few chain ended read asked operands h =
    let chain' = subst (λ o. AreOptions c o words found rest) nothing chain in
    let one = front_all c words rest found (sym counted ∙ few) chain' ended asked operands h in
    let both_given : Some given ≡ Some operands = read ∙ one.1 in
    (one.0, cc)

pub front_unread : (c : Command) (words rest : List Text) (start found : Options) (count : ℕ) → start ≡ no_options
    → count ≡ operand_count words → count ≡ 0 → AreOptions c start words found rest → option_in c found rest ≡ None
    → None ≡ operands_in rest → (asked : Options) (operands : List Text) → HasForm c words asked operands → ⊥
front_unread c words rest start found count nothing counted few chain ended read asked operands h =
    let chain' = subst (λ o. AreOptions c o words found rest) nothing chain in
    let one = front_all c words rest found (sym counted ∙ few) chain' ended asked operands h in
    let none_is : None ≡ Some operands = read ∙ one.1 in
    cc

module _ {X : Type 0} (text : X → Text) where
  front_words : (words front : List X) (count : ℕ) → count ≡ operand_count (map text words) → front ≡ take count words
      → take (operand_count (map text words)) (map text words) ≡ map text front
  front_words words front count counted is =
      ap (λ n. take n (map text words)) (sym counted) ∙ take-map text count words ∙ ap (map text) (sym is)

  back_words : (words back : List X) (count : ℕ) → count ≡ operand_count (map text words) → back ≡ drop count words
      → map text back ≡ drop (operand_count (map text words)) (map text words)
  back_words words back count counted is =
      ap (map text) is ∙ sym (drop-map text count words) ∙ ap (λ n. drop n (map text words)) counted

  no_words : (xs : List X) → length xs < 1 → map text xs ≡ []
  no_words [] lt = refl
  no_words (x ∷ xs) lt = absurd (omega (arith, lt))

  some_words : (xs : List X) → 1 ≤ length xs → map text xs ≡ [] → ⊥
  some_words [] le e = absurd (omega (arith, le))
  some_words (x ∷ xs) le e = cc

  chain_behind : (c : Command) (words back left : List X) (start found : Options) (count : ℕ) → start ≡ no_options
      → count ≡ operand_count (map text words) → back ≡ drop count words → AreOptions c start (map text back) found (map text left)
      → AreOptions c no_options (drop (operand_count (map text words)) (map text words)) found (map text left)
  chain_behind c words back left start found count nothing counted is chain =
      subst (λ ws. AreOptions c no_options ws found (map text left)) (back_words words back count counted is)
      (subst (λ o. AreOptions c o (map text back) found (map text left)) nothing chain)

  pub behind_read : (c : Command) (words front back left : List X) (start found : Options) (count : ℕ) → start ≡ no_options
      → count ≡ operand_count (map text words) → front ≡ take count words → back ≡ drop count words
      → AreOptions c start (map text back) found (map text left) → length left < 1 → HasForm c (map text words) found (map text front)
  behind_read c words front back left start found count nothing counted first second chain few =
      let whole = subst (λ ws. AreOptions c no_options (drop (operand_count (map text words)) (map text words)) found ws) (no_words left few)
      (chain_behind c words back left start found count nothing counted second chain) in
      subst (λ ws. HasForm c (map text words) found ws) (front_words words front count counted first) (behind_found c (map text words) found whole)

  pub behind_only : (c : Command) (words front back left : List X) (start found : Options) (count : ℕ) → start ≡ no_options
      → count ≡ operand_count (map text words) → 0 < count → front ≡ take count words → back ≡ drop count words
      → AreOptions c start (map text back) found (map text left) → option_in c found (map text left) ≡ None
      → (asked : Options) (operands : List Text) → HasForm c (map text words) asked operands
      → (found ≡ asked) × (map text left ≡ []) × (map text front ≡ operands)
  behind_only c words front back left start found count nothing counted many first second chain ended asked operands h =
      let some : operand_count (map text words) ≢ 0 = λ e. absurd (omega (arith, e, counted, many)) in
      let all = behind_all c (map text words) (map text left) found some
      (chain_behind c words back left start found count nothing counted second chain) ended asked operands h in
      (all.0, all.1, sym (front_words words front count counted first) ∙ all.2)

  pub behind_unread : (c : Command) (words front back left : List X) (start found : Options) (count : ℕ) → start ≡ no_options
      → count ≡ operand_count (map text words) → 0 < count → front ≡ take count words → back ≡ drop count words
      → AreOptions c start (map text back) found (map text left) → option_in c found (map text left) ≡ None → 1 ≤ length left
      → (asked : Options) (operands : List Text) → HasForm c (map text words) asked operands → ⊥
  behind_unread c words front back left start found count nothing counted many first second chain ended more_left asked operands h =
      some_words left more_left (behind_only c words front back left start found count nothing counted many first second chain ended asked operands h).1
