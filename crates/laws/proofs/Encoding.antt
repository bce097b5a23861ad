-- Words and directories are two forms of one thing: what is encoded decodes to itself, and sound words are encoded.
-- The four lists are read at once where they can be: the words of all listed entries are the words in use.
use Rattle.std.specs.Prelude.{if◌then◌else◌}
use mathlib.Core.Path.{◌≡◌, refl, sym, ap, ◌∙◌}
use mathlib.Core.Bool.{true}
use mathlib.Core.List.{List, [], ◌∷◌, ◌++◌, append_assoc}
use Prim.Native.Nat.{ℕ, zero, suc, ◌+◌, ◌-◌, ◌*◌, ◌/◌, ◌%◌, ◌≤◌}
use native.Mathlib.Nat.{zero-add, suc-add, add_assoc, mul-add}
use native.Mathlib.Omega.{arith}
use lib.ListN.{get_or, take, drop, replicate, length-append, length-drop, length-replicate, take-append-drop}
use lib.Seq.{drop-nil, drop-cons, drop-drop, drop_at, take_at}
use lib.Dec.{eqb}
use borrow.Author.Tests.{eqb-true, eqb-false}
use Rattle.terms.specs.Choice.{∣◌∣, all_at_most}
use Rattle.terms.proofs.Choice.{by_test}
use Rattle.terms.proofs.Tests.{reads}
use Rattle.figures.specs.Entry.{Entry, S, L, bits, long_of, long}
use Rattle.figures.specs.Directory.{Directory, cached, remembered, listed}
use Rattle.figures.specs.Words.{flags, most_flags, entry, words, entries}
use Rattle.figures.specs.Words.{size, n_t1, n_t2, n_b1, n_b2, used, unused, zeros, encode, decode}
use Rattle.figures.specs.Sound.{flag_words, sound}
use Rattle.figures.specs.Demands.{WordsAreDirectories, WordsFit}
use Rattle.laws.proofs.Entries.{bit_counts, filter_counts}
use Rattle.laws.proofs.Lists.{bits_at_most_one, short_or_long}

-- ENTRIES AND THEIR WORDS

-- Each flag by itself: what is read off the word of an entry, and what an entry that is read off a word counts for.
bit_of_flags : (e : Entry) → (entry e.page (flags e)).bit ≡ e.bit
bit_of_flags e =
    let read : flags e % 2 ≡ bits e = omega (arith, bits_at_most_one e) in
    ap (λ n. eqb n 1) read ∙ bit_counts e

filter_of_flags : (e : Entry) → (entry e.page (flags e)).filter ≡ e.filter
filter_of_flags e =
    let read : flags e / 2 % 2 ≡ long e = omega (arith, bits_at_most_one e, short_or_long e.filter) in
    ap (λ n. if eqb n 1 then L else S) read ∙ filter_counts e

entry_flags : (e : Entry) → entry e.page (flags e) ≡ e
entry_flags e = rw (bit_of_flags e, filter_of_flags e)

bits_of_entry : (page f : ℕ) → bits (entry page f) ≡ f % 2
bits_of_entry page f =
    by_test (λ n. n ≡ f % 2) (eqb (f % 2) 1) (λ set. omega (arith, eqb-true)) (λ clear. omega (arith, eqb-false))

long_of_entry : (page f : ℕ) → long (entry page f) ≡ f / 2 % 2
long_of_entry page f =
    by_test (λ filter. long_of filter ≡ f / 2 % 2) (eqb (f / 2 % 2) 1)
    (λ is-long. omega (arith, eqb-true)) (λ is-short. omega (arith, eqb-false))

flags_entry : (page f : ℕ) → f ≤ most_flags → flags (entry page f) ≡ f
flags_entry page f h = omega (arith, bits_of_entry page f, long_of_entry page f)

pub length_words : (l : List Entry) → ∣ words l ∣ ≡ 2 * ∣ l ∣
length_words [] = refl
length_words (e ∷ l) = let h = length_words l in omega arith

pub words_append : (a b : List Entry) → words (a ++ b) ≡ words a ++ words b
words_append [] b = refl
words_append (e ∷ a) b = rw (words_append a b)

pub drop_words : (l : List Entry) (rest : List ℕ) → drop (2 * ∣ l ∣) (words l ++ rest) ≡ rest
drop_words l rest = drop_at (words l) rest _ (length_words l)

pub entries_words : (l : List Entry) (rest : List ℕ) → entries ∣ l ∣ (words l ++ rest) ≡ l
entries_words [] rest = refl
entries_words (e ∷ l) rest = cc (entry_flags e, entries_words l rest)

pub length_entries : (n : ℕ) (w : List ℕ) → 2 * n ≤ ∣ w ∣ → ∣ entries n w ∣ ≡ n
length_entries zero w h = refl
length_entries (suc n) [] h = absurd (omega arith)
length_entries (suc n) (page ∷ []) h = absurd (omega arith)
length_entries (suc n) (page ∷ f ∷ w) h = ap suc (length_entries n w (omega arith))

twice_suc : (n : ℕ) → 2 * suc n ≡ suc (suc (2 * n))
twice_suc n = omega arith

entries_none : (n : ℕ) → entries n [] ≡ []
entries_none zero = refl
entries_none (suc n) = refl

pub entries_add : (m n : ℕ) (w : List ℕ) → entries (m + n) w ≡ entries m w ++ entries n (drop (2 * m) w)
entries_add zero n w = rw zero-add
entries_add (suc m) n [] = rw (suc-add, drop-nil, entries_none n)
entries_add (suc m) n (page ∷ []) = rw (suc-add, twice_suc, entries_none n)
entries_add (suc m) n (page ∷ f ∷ w) = rw (suc-add, twice_suc, entries_add m n w)

pub words_entries : (n : ℕ) (w : List ℕ) → 2 * n ≤ ∣ w ∣ → all_at_most most_flags (flag_words (take (2 * n) w)) ≡ true
    → words (entries n w) ≡ take (2 * n) w
words_entries zero w h small = refl
words_entries (suc n) [] h small = absurd (omega arith)
words_entries (suc n) (page ∷ []) h small = absurd (omega arith)
words_entries (suc n) (page ∷ f ∷ w) h small =
    let said = simp (twice_suc, reads) at small in
    rw (twice_suc, flags_entry page f said.0, words_entries n w (omega arith) said.1)

-- FROM A DIRECTORY TO WORDS AND BACK

pub decode_encode : (d : Directory) → decode (encode d) ≡ d
unfolding decode
decode_encode d = simp (mul-add, ← add_assoc, ← drop-drop, drop_words, entries_words)

-- Words that a directory has are words of no other.
pub decoded : (d : Directory) {w : List ℕ} → encode d ≡ w → decode w ≡ d
decoded d is = ap decode (sym is) ∙ decode_encode d

pub encoded : (d : Directory) {w : List ℕ} → encode d ≡ w → encode (decode w) ≡ w
encoded d is = ap encode (decoded d is) ∙ is

pub one_to_one : (d d' : Directory) → encode d ≡ encode d' → d ≡ d'
one_to_one d d' h = sym (decoded d h) ∙ decode_encode d'

pub words_fit : WordsFit
words_fit d h = simp (length-append, length_words, length-replicate) (omega arith)

encode_listed : (d : Directory) → drop 8 (encode d) ≡ words (listed d) ++ zeros d
encode_listed d = simp (words_append, append_assoc)

length_listed : (d : Directory) → ∣ words (listed d) ∣ ≡ used (encode d)
length_listed d = simp (length_words, length-append) (omega arith)

pub used_words : (d : Directory) → take (used (encode d)) (drop 8 (encode d)) ≡ words (listed d)
used_words d = rw encode_listed (take_at (words (listed d)) (zeros d) _ (length_listed d))

pub unused_words : (d : Directory) → unused (encode d) ≡ zeros d
unused_words d = rw (← drop-drop, encode_listed) (drop_at (words (listed d)) (zeros d) _ (length_listed d))

-- FROM SOUND WORDS TO A DIRECTORY AND BACK

-- How many entries the length words state, all lists together.
abbrev stated : List ℕ → ℕ
stated w = n_t1 w + n_t2 w + (n_b1 w + n_b2 w)

listed_decode : (w : List ℕ) → listed (decode w) ≡ entries (stated w) (drop 8 w)
unfolding decode
listed_decode w = simp (mul-add, ← add_assoc, entries_add, drop-drop, append_assoc)

all_zero : (w : List ℕ) → all_at_most 0 w ≡ true → w ≡ replicate ∣ w ∣ 0
all_zero [] h = refl
all_zero (x ∷ w) h =
    let said = simp reads at h in
    let x_zero : x ≡ 0 = omega arith in
    cc (all_zero w said.1)

-- The words from i on, the first n of them one by one.
abbrev words_from : ℕ → ℕ → List ℕ → List ℕ
words_from i zero w = drop i w
words_from i (suc n) w = get_or w i 0 ∷ words_from (suc i) n w

one_by_one : (w : List ℕ) (n i : ℕ) → i + n ≤ ∣ w ∣ → words_from i n w ≡ drop i w
one_by_one w zero i h = refl
one_by_one w (suc n) i h = rw (drop-cons w i 0 (omega arith), one_by_one w n (suc i) (omega arith))

-- Lists that fit, known flags, and zeros after them: that much of soundness makes words those of a directory.
pub shaped : (w : List ℕ) → ∣ w ∣ ≡ 8 + 4 * size w → n_t1 w + n_t2 w ≤ size w → n_b1 w + n_b2 w ≤ size w
    → all_at_most most_flags (flag_words (take (used w) (drop 8 w))) ≡ true → all_at_most 0 (unused w) ≡ true
    → encode (decode w) ≡ w
unfolding decode
shaped w exact cache history flags_small unused_small =
    let t1 = length_entries (n_t1 w) (drop 8 w) (simp length-drop (omega arith)) in
    let t2 = length_entries (n_t2 w) (drop (8 + 2 * n_t1 w) w) (simp length-drop (omega arith)) in
    let b1 = length_entries (n_b1 w) (drop (8 + 2 * (n_t1 w + n_t2 w)) w) (simp length-drop (omega arith)) in
    let b2 = length_entries (n_b2 w) (drop (8 + 2 * (n_t1 w + n_t2 w + n_b1 w)) w) (simp length-drop (omega arith)) in
    let used_part : words (listed (decode w)) ≡ take (used w) (drop 8 w) =
    rw listed_decode (words_entries (stated w) (drop 8 w) (simp length-drop (omega arith)) flags_small) in
    let d = decode w in
    let rest : 4 * size w - 2 * (cached d + remembered d) ≡ ∣ unused w ∣ = simp length-drop (omega arith) in
    let unused_part : zeros d ≡ unused w = rw rest (sym (all_zero (unused w) unused_small)) in
    let body : drop 8 (encode (decode w)) ≡ drop 8 w =
    rw (encode_listed, used_part, unused_part, ← drop-drop) (take-append-drop (used w) (drop 8 w)) in
    cc (one_by_one w 8 0 (omega arith))

pub encode_decode : (w : List ℕ) → sound w ≡ true → encode (decode w) ≡ w
unfolding sound
encode_decode w h = let said = simp reads at h in shaped w (omega arith) (omega arith) (omega arith) (search) (search)

pub words_are_directories : WordsAreDirectories
words_are_directories = record { decode_encode = decode_encode; encode_decode = encode_decode; one_to_one = one_to_one }
