-- Sizes, flags and zeros in order make the words a directory's, and then the entries decide.
use Rattle.std.proofs.Common.{◌≡◌, sym, ◌∙◌, true}
use Rattle.soundness.specs.Orderly.{sizes_fit}
use Rattle.soundness.proofs.Tests.{denied, never}
use Rattle.soundness.proofs.Rules.{flags_known, rest_zero, held}
use Rattle.soundness.proofs.Rules.{sound_sizes, sound_flags, sound_zeros, sound_entries}
use Rattle.soundness.proofs.is_sound.Goals.{then-sizes_fit, else-sizes_fit, then-flags_known, else-flags_known}
use Rattle.soundness.proofs.is_sound.Goals as goal

pub invariant_of-entries_sound : goal.invariant_of-entries_sound
invariant_of-entries_sound c =
    let is = c.args.dir.now in
    elim c.if-flags_known.branch [
      | then-flags_known w ↦
          let zeros_are : w.all_zero.result ≡ rest_zero is = cc in
          elim c.if-sizes_fit.branch [
            | then-sizes_fit v ↦
                let sizes : sizes_fit is ≡ true = sym c.sizes_fit.ensures ∙ v.if-sizes_fit.true in
                let flags_are : v.flags_known.result ≡ flags_known is = cc in
                record {
                  held = held c.requires sizes (sym flags_are ∙ sym v.value-is ∙ w.if-flags_known.true)
                      (sym zeros_are ∙ sym w.value-is ∙ c.if-all_zero.true);
                }
            | else-sizes_fit v ↦ absurd (never (v.value-is ∙ v.if-sizes_fit.false) w.if-flags_known.true)
          ]
      | else-flags_known w ↦ absurd (never (w.value-is ∙ w.if-flags_known.false) c.if-all_zero.true)
    ]

pub returns-then-all_zero : goal.returns-then-all_zero
returns-then-all_zero c =
    let is = c.args.dir.now in
    elim c.if-flags_known.branch [
      | then-flags_known w ↦
          let zeros_are : w.all_zero.result ≡ rest_zero is = cc in
          elim c.if-sizes_fit.branch [
            | then-sizes_fit v ↦
                let sizes : sizes_fit is ≡ true = sym c.sizes_fit.ensures ∙ v.if-sizes_fit.true in
                let flags_are : v.flags_known.result ≡ flags_known is = cc in
                c.entries_sound.ensures
                ∙ sound_entries c.requires sizes (sym flags_are ∙ sym v.value-is ∙ w.if-flags_known.true)
                (sym zeros_are ∙ sym w.value-is ∙ c.if-all_zero.true)
            | else-sizes_fit v ↦ absurd (never (v.value-is ∙ v.if-sizes_fit.false) w.if-flags_known.true)
          ]
      | else-flags_known w ↦ absurd (never (w.value-is ∙ w.if-flags_known.false) c.if-all_zero.true)
    ]

pub returns-else-all_zero : goal.returns-else-all_zero
returns-else-all_zero c =
    let is = c.args.dir.now in
    c.if-all_zero.false
    ∙ elim c.if-flags_known.branch [
      | then-flags_known w ↦
          let zeros_are : w.all_zero.result ≡ rest_zero is = cc in
          denied (sound_zeros _) (sym zeros_are ∙ sym w.value-is ∙ c.if-all_zero.false)
      | else-flags_known w ↦
          elim c.if-sizes_fit.branch [
            | then-sizes_fit v ↦
                let flags_are : v.flags_known.result ≡ flags_known is = cc in
                denied (sound_flags _) (sym flags_are ∙ sym v.value-is ∙ w.if-flags_known.false)
            | else-sizes_fit v ↦ denied (sound_sizes _) (sym c.sizes_fit.ensures ∙ v.if-sizes_fit.false)
          ]
    ]
