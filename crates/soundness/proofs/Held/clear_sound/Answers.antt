-- What the three share decides, then the bits of T1.
use Rattle.std.proofs.Common.{refl, sym, ◌∙◌, arith}
use Rattle.figures.specs.Classics.{clear_sound}
use Rattle.terms.proofs.Tests.{reads, agree}
use Rattle.soundness.proofs.Tests.{denied}
use Rattle.soundness.proofs.Parts.{told, t1_stands}
use Rattle.soundness.proofs.Held.clear_sound.Goals as goal

pub returns-then-alone_sound : goal.returns-then-alone_sound
unfolding clear_sound
returns-then-alone_sound c =
    let shared = sym c.alone_sound.ensures ∙ c.if-alone_sound.true in
    let ones = told (t1_stands c.args.self.held) c.count.ensures.1 (omega arith) (omega arith) in
    agree
    _
    _
    (λ h. let said = simp reads at h in simp reads (shared, (omega arith, refl)))
    (λ h. let said = simp reads at h in simp reads (omega (arith, said.1.0)))

pub returns-else-alone_sound : goal.returns-else-alone_sound
unfolding clear_sound
returns-else-alone_sound c =
    c.if-alone_sound.false
    ∙ denied (λ h. let said = simp reads at h in said.0) (sym c.alone_sound.ensures ∙ c.if-alone_sound.false)
