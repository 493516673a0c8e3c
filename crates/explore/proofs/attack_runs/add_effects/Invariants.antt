use Rattle.std.proofs.Common.{◌≡◌, false, ◌++◌, drop}
use Rattle.std.specs.List.{flat_map}
use Rattle.simulator.specs.Traces.{effect_text}
use Rattle.syscalls.specs.Views.{effects_of}
use Rattle.explore.proofs.attack_runs.add_effects.Given as goal

-- with the effects that are left it is the whole text
abbrev pub invariant-loop-effect : goal.invariant-loop-effect
invariant-loop-effect l = record {
  keeps : l.page.is_short ≡ false → l.fn.page.is_short ≡ false;
  adds :
      l.page.is_short ≡ false
      → l.page.bytes.items ++ flat_map effect_text (effects_of (drop l.effect-index l.effects)) ≡ l.fn.page.bytes.items ++ flat_map effect_text (effects_of l.effects);
}
