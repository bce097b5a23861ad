-- CART's rules in turn; a list is L throughout where as many entries are L as it has.
use Rattle.std.proofs.Common.{◌≡◌, refl, sym, ◌∙◌, ◌++◌, arith}
use borrow.Author.Tests.{eqb-true, eqb-false, leb-true}
use Rattle.figures.specs.Entry.{short, total}
use Rattle.figures.specs.Words.{decode}
use Rattle.figures.specs.Cart.{cart_sound}
use Rattle.laws.proofs.Lists.{total_append}
use Rattle.terms.proofs.Tests.{reads, agree}
use Rattle.soundness.proofs.Tests.{fails, never}
use Rattle.soundness.proofs.Parts.{told, t2_stands, b1_stands, b2_stands, others_short}
use Rattle.soundness.proofs.Held.cart_sound.Goals.{then-dir, else-dir, then-count-dir, else-count-dir}
use Rattle.soundness.proofs.Held.cart_sound.Goals as goal

pub returns-then-count-dir-2 : goal.returns-then-count-dir-2
unfolding cart_sound
returns-then-count-dir-2 c =
    let d = decode c.args.self.dir.now in
    let b1 = told (b1_stands c.args.self.held) c.count-then-count-dir-2.ensures.1 (omega arith) (omega arith) in
    elim c.if-count-dir.branch [
      | then-count-dir w ↦
          let in_b2 = others_short (b2_stands c.args.self.held) w.count-then-count-dir.ensures.1 (omega arith) (omega arith) in
          let all_b2 = eqb-true _ _ (sym w.value-is ∙ c.if-count-dir-2.true) in
          elim c.if-dir.branch [
            | then-dir v ↦
                let in_t2 = others_short (t2_stands c.args.self.held) v.count.ensures.1 (omega arith) (omega arith) in
                let all_t2 = eqb-true _ _ (sym v.value-is ∙ w.if-count-dir.true) in
                let none_short : total short (d.t2 ++ d.b2) ≡ 0 = omega (arith, total_append short d.t2 d.b2) in
                agree
                _
                _
                (λ h. let said = simp reads at h in simp reads (omega arith, (none_short, (sym b1 ∙ said, refl))))
                (λ h. let said = simp reads at h in simp reads (b1 ∙ said.1.1.0))
            | else-dir v ↦
                let over = v.if-dir.false in
                absurd (omega (arith, leb-true _ _ (sym v.value-is ∙ w.if-count-dir.true)))
          ]
      | else-count-dir w ↦ absurd (never (w.value-is ∙ w.if-count-dir.false) c.if-count-dir-2.true)
    ]

pub returns-else-count-dir-2 : goal.returns-else-count-dir-2
unfolding cart_sound
returns-else-count-dir-2 c =
    let d = decode c.args.self.dir.now in
    let both = total_append short d.t2 d.b2 in
    c.if-count-dir-2.false
    ∙ elim c.if-count-dir.branch [
      | then-count-dir w ↦
          let in_b2 = others_short (b2_stands c.args.self.held) w.count-then-count-dir.ensures.1 (omega arith) (omega arith) in
          let not_all = eqb-false _ _ (sym w.value-is ∙ c.if-count-dir-2.false) in
          fails _ (λ h. let said = simp reads at h in not_all (omega arith))
      | else-count-dir w ↦
          elim c.if-dir.branch [
            | then-dir v ↦
                let in_t2 = others_short (t2_stands c.args.self.held) v.count.ensures.1 (omega arith) (omega arith) in
                let not_all = eqb-false _ _ (sym v.value-is ∙ w.if-count-dir.false) in
                fails _ (λ h. let said = simp reads at h in not_all (omega arith))
            | else-dir v ↦
                let over = v.if-dir.false in fails _ (λ h. let said = simp reads at h in omega arith)
          ]
    ]
