-- Two outcomes that a promise for C allows are equal: the answer and every lent word afterwards.
use mathlib.Core.Path.{◌≡◌, sym, ◌∙◌}
use mathlib.Core.List.{List}
use Prim.Native.Nat.{ℕ}
use Rattle.directory.proofs.Determined.{defined_one_to_one}
use Rattle.exports.specs.declared.Answer.{Answer}
use Rattle.exports.specs.declared.Ran.{Ran}
use Rattle.exports.specs.Promises.{Freshened, Checked, Requested, Replayed}

pub fresh_determined : {policy c r s : ℕ} {w w' v' : List ℕ}
    → Freshened policy c w r w' → Freshened policy c w s v' → (r ≡ s) × (w' ≡ v')
fresh_determined a b = (a.number_is ∙ sym b.number_is, a.words_are ∙ sym b.words_are)

pub check_determined : {r s : ℕ} {w : List ℕ} → Checked w r → Checked w s → r ≡ s
check_determined a b = a.number_is ∙ sym b.number_is

pub request_determined : {w w' v' : List ℕ} {x : ℕ} {r s : Answer}
    → Requested w x r w' → Requested w x s v' → (r ≡ s) × (w' ≡ v')
request_determined {r = r} {s} a b =
    let number : r.number ≡ s.number = a.number_is ∙ sym b.number_is in
    let kind : r.kind ≡ s.kind = a.kind_is ∙ sym b.kind_is in
    let page : r.page ≡ s.page = a.page_is ∙ sym b.page_is in
    let list : r.list ≡ s.list = a.list_is ∙ sym b.list_is in
    let moves : r.moves ≡ s.moves = a.moves_is ∙ sym b.moves_is in (
      λ i. record { number = number i; kind = kind i; page = page i; list = list i; moves = moves i },
      a.words_are ∙ sym b.words_are,
    )

pub run_determined : {w trace answers w' v' a b : List ℕ} {r s : Ran}
    → Replayed w trace answers r w' a → Replayed w trace answers s v' b → (r ≡ s) × (w' ≡ v') × (a ≡ b)
run_determined {r = r} {s} p q =
    let number : r.number ≡ s.number = p.number_is ∙ sym q.number_is in
    let tally : r.tally ≡ s.tally = defined_one_to_one r.tally s.tally (p.tally_is ∙ sym q.tally_is) in (
      λ i. record { number = number i; tally = tally i },
      p.words_are ∙ sym q.words_are,
      p.answers_are ∙ sym q.answers_are,
    )
