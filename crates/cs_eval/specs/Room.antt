-- How many places the frames of an expression fill at most.
use Rattle.std.specs.Prelude.{ℕ, ◌+◌, ◌≤◌, max, List, [], ◌∷◌, map, length}
use Rattle.cs_eval.specs.Places.{in_turn, places, places_of_link, places_of_step}
use Rattle.cs_eval.specs.declared.frame.Frame.{Frame}
use Rattle.cs_eval.specs.declared.frame.Frame.TheVariants as frame
use Rattle.cs_eval.specs.declared.frame.Next.{Next}
use Rattle.cs_eval.specs.declared.frame.Next.TheVariants as next
use Rattle.cs_eval.specs.Stacked.{Stacked}

-- above those below it, once a value is handed to it
abbrev pub frame_places : Frame → ℕ
frame_places (frame.Unary op place) = 0
frame_places (frame.First op right place) = places right.now + 1
frame_places (frame.Second op left place) = 0
frame_places (frame.Chain links) = in_turn (map places_of_link links.now)
frame_places (frame.Path steps) = in_turn (map places_of_step steps.now)
frame_places (frame.Items rest items place) = in_turn (map places rest.now)

-- the most that are filled at once until all is done
abbrev pub frames_places : List Frame → ℕ
frames_places [] = 0
frames_places (f ∷ fs) = max (length fs + frame_places f) (frames_places fs)

-- with so many above them first
abbrev pub places_above : ℕ → List Frame → ℕ
places_above more fs = max (length fs + more) (frames_places fs)

-- there is room for so many above what stands there, and for all that is left to do then
abbrev pub HasRoomFor : ℕ → Stacked Frame → Type 0
HasRoomFor more s = places_above more s.items ≤ s.most

abbrev pub next_places : Next → ℕ
next_places (next.Eval e) = places e.now
next_places (next.Give d) = 0

-- there is room for what is done next, and for all that is left to do then
abbrev pub HasRoom : Next → Stacked Frame → Type 0
HasRoom n s = HasRoomFor (next_places n) s
