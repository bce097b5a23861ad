-- The rules of the three in turn; the count of flag 2 is that of filter L.
use Rattle.std.proofs.Common.{refl, sym, ◌∙◌, arith}
use borrow.Author.Tests.{eqb-true, eqb-false}
use Rattle.figures.specs.Classics.{alone_sound}
use Rattle.terms.proofs.Tests.{reads, agree}
use Rattle.soundness.proofs.Tests.{fails, never}
use Rattle.soundness.proofs.Parts.{told, t1_stands}
use Rattle.soundness.proofs.Held.alone_sound.Goals.{then-dir-eq0, else-dir-eq0, then-dir-eq0-2, else-dir-eq0-2}
use Rattle.soundness.proofs.Held.alone_sound.Goals as goal

pub returns-then-n-remembered-eq0 : goal.returns-then-n-remembered-eq0
unfolding alone_sound
returns-then-n-remembered-eq0 c =
    let ones = told (t1_stands c.args.self.held) c.count.ensures.1 (omega arith) (omega arith) in
    elim c.if-dir-eq0-2.branch [
      | then-dir-eq0-2 w ↦
          let others = eqb-true _ 0 (sym w.value-is ∙ c.if-n-remembered-eq0.true) in
          elim c.if-dir-eq0.branch [
            | then-dir-eq0 v ↦
                let q_zero = eqb-true _ 0 (sym v.value-is ∙ w.if-dir-eq0-2.true) in
                agree
                _
                _
                (λ h. let said = simp reads at h in
                simp reads (v.if-dir-eq0.true, (q_zero, (omega arith, (omega arith, refl)))))
                (λ h. let said = simp reads at h in simp reads (omega (arith, said.1.1.1.0)))
            | else-dir-eq0 v ↦ absurd (v.if-dir-eq0.false (eqb-true _ 0 (sym v.value-is ∙ w.if-dir-eq0-2.true)))
          ]
      | else-dir-eq0-2 w ↦ absurd (never (w.value-is ∙ w.if-dir-eq0-2.false) c.if-n-remembered-eq0.true)
    ]

pub returns-else-n-remembered-eq0 : goal.returns-else-n-remembered-eq0
unfolding alone_sound
returns-else-n-remembered-eq0 c =
    c.if-n-remembered-eq0.false
    ∙ elim c.if-dir-eq0-2.branch [
      | then-dir-eq0-2 w ↦
          let others = eqb-false _ 0 (sym w.value-is ∙ c.if-n-remembered-eq0.false) in
          fails _ (λ h. let said = simp reads at h in others (omega (arith, said.1.1.0)))
      | else-dir-eq0-2 w ↦
          elim c.if-dir-eq0.branch [
            | then-dir-eq0 v ↦
                let q_not_zero = eqb-false _ 0 (sym v.value-is ∙ w.if-dir-eq0-2.false) in
                fails _ (λ h. let said = simp reads at h in q_not_zero said.1.0)
            | else-dir-eq0 v ↦ fails _ (λ h. let said = simp reads at h in v.if-dir-eq0.false said.0)
          ]
    ]
