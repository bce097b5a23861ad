-- Two outcomes that a promise allows are equal: the answer and every lent word afterwards.
use Rattle.std.specs.Prelude.{Result, Ok}
use mathlib.Core.Path.{◌≡◌, refl, sym, ◌∙◌}
use mathlib.Core.List.{List}
use Prim.Native.Nat.{ℕ}
use denote.Enum.Bare.{tag_one}
use denote.Enum.Declared.{tag_of}
use Rattle.terms.specs.declared.refusals.Refusal.{Refusal}
use Rattle.terms.proofs.Numbers.{same_answer}
use Rattle.engine.specs.declared.kinds.Kind.{Kind}
use Rattle.engine.specs.contracts.kinds.Kind.{the_type}
use Rattle.engine.specs.Shown.{number_of}
use Rattle.tally.specs.declared.Tally.{Tally}
use Rattle.tally.specs.Note.{defined}
use Rattle.directory.specs.declared.Answer.{Answer}
use Rattle.directory.specs.Promises.{word_in, tally_in, Freshened, Checked, Requested, Replayed}

pub fresh_determined : {policy c : ℕ} {r s : Result Unit Refusal} {w w' v' : List ℕ}
    → Freshened policy c w r w' → Freshened policy c w s v' → (r ≡ s) × (w' ≡ v')
fresh_determined {r = r} {s} a b =
    (same_answer r s (a.number_is ∙ sym b.number_is) (λ t u is too. refl), a.words_are ∙ sym b.words_are)

pub check_determined : {r s : Result Unit Refusal} {w : List ℕ} → Checked w r → Checked w s → r ≡ s
check_determined {r} {s} a b = same_answer r s (a.number_is ∙ sym b.number_is) (λ t u is too. refl)

-- No two kinds have one number.
number_is_tag : (kind : Kind) → number_of kind ≡ tag_of the_type kind
number_is_tag Kind.Hit = refl
number_is_tag Kind.WithRoom = refl
number_is_tag Kind.New = refl
number_is_tag Kind.FromB1 = refl
number_is_tag Kind.FromB2 = refl

kind_one_to_one : (k l : Kind) → number_of k ≡ number_of l → k ≡ l
kind_one_to_one k l same = tag_one the_type tt k l (sym (number_is_tag k) ∙ same ∙ number_is_tag l)

-- A word of an accepted answer is the answer's.
word_same : (word : Answer → ℕ) {r s : Result Answer Refusal} {a b : Answer} → r ≡ Ok a → s ≡ Ok b
    → word_in word r ≡ word_in word s → word a ≡ word b
word_same word is too same = rw (is, too) at same

pub request_determined : {w w' v' : List ℕ} {x : ℕ} {r s : Result Answer Refusal}
    → Requested w x r w' → Requested w x s v' → (r ≡ s) × (w' ≡ v')
request_determined {r = r} {s} p q =
    let same : (a b : Answer) → r ≡ Ok a → s ≡ Ok b → a ≡ b =
    λ a b is too.
    let number : number_of a.kind ≡ number_of b.kind =
    word_same (λ (a : Answer). number_of a.kind) is too (p.kind_is ∙ sym q.kind_is) in
    let kind : a.kind ≡ b.kind = kind_one_to_one a.kind b.kind number in
    let page : a.page ≡ b.page = word_same (λ (a : Answer). a.page) is too (p.page_is ∙ sym q.page_is) in
    let list : a.list ≡ b.list = word_same (λ (a : Answer). a.list) is too (p.list_is ∙ sym q.list_is) in
    let moves : a.moves ≡ b.moves = word_same (λ (a : Answer). a.moves) is too (p.moves_is ∙ sym q.moves_is) in
    λ i. record { kind = kind i; page = page i; list = list i; moves = moves i } in
    (same_answer r s (p.number_is ∙ sym q.number_is) same, p.words_are ∙ sym q.words_are)

-- The code's tally says all that the definitions' says.
pub defined_one_to_one : (t u : Tally) → defined t ≡ defined u → t ≡ u
defined_one_to_one t u e =
    λ i. record {
      requests = (e i).requests;
      hits = (e i).hits;
      misses = (e i).misses;
      evictions = (e i).evictions;
      moves = (e i).moves;
    }

pub run_determined : {w trace answers w' v' a b : List ℕ} {r s : Result Tally Refusal}
    → Replayed w trace answers r w' a → Replayed w trace answers s v' b → (r ≡ s) × (w' ≡ v') × (a ≡ b)
run_determined {r = r} {s} p q =
    let tallies : tally_in r ≡ tally_in s = p.tally_is ∙ sym q.tally_is in
    let same : (t u : Tally) → r ≡ Ok t → s ≡ Ok u → t ≡ u =
    λ t u is too. defined_one_to_one t u (rw (is, too) at tallies) in (
      same_answer r s (p.number_is ∙ sym q.number_is) same,
      p.words_are ∙ sym q.words_are,
      p.answers_are ∙ sym q.answers_are,
    )
