use Rattle.std.proofs.Common.{◌≡◌, ℕ, ◌<◌, ◌≤◌, Some}
use Rattle.std.specs.Prelude.{slice_get}
use Rattle.cs_client.specs.declared.counting.Voices.{Voices}
use Rattle.cs_client.specs.Voices.{HeardFrom}
use Rattle.cs_client.proofs.counting.hear.Given as goal

abbrev pub invariant-loop-i : goal.invariant-loop-i
invariant-loop-i l = record {
  heard : (k : ℕ) (v w : Voices) → k < l.i → slice_get l.initial.voices k ≡ Some v → slice_get l.voices k ≡ Some w
      → HeardFrom l.from l.accepted v w;
  left : (k : ℕ) → l.i ≤ k → slice_get l.voices k ≡ slice_get l.initial.voices k;
}
