-- Two lists of deeds, and what the order of a single member does after them.
use Rattle.std.proofs.Common.{◌≡◌, true, false, List, [], ◌∷◌, refl}
use Rattle.cs_order.specs.declared.proposed.Proposed.{Proposed}
use Rattle.cs_order.specs.declared.answers.Step.TheVariants.{Chosen, Quiet}
use Rattle.cs_order.specs.declared.answers.May.TheVariants.{No, Free}
use Rattle.cs_order.specs.declared.solo.NoMessage.{NoMessage}
use Rattle.cs_order.specs.Deeds.{Deed, Advanced, Proposing, Ticked, Resent, Member, chosen_in}
use Rattle.cs_order.specs.Solo.{solo}

first : Proposed
first = record { digest = 1 ∷ []; bytes = 10 ∷ 11 ∷ [] }

second : Proposed
second = record { digest = 2 ∷ []; bytes = 20 ∷ [] }

abbrev member : List (Deed NoMessage) → Member NoMessage
member deeds = record { f = 0; me = 0; deeds = deeds }

-- an entry is proposed, two ticks pass, and nothing is chosen yet
abbrev waits : List (Deed NoMessage)
waits = Ticked false [] ∷ Ticked true [] ∷ Proposing first [] ∷ []

it_is_chosen_next : solo.step (member waits) ≡ Chosen first
it_is_chosen_next = refl

nothing_else_may_be_proposed : solo.may_propose (member waits) ≡ No
nothing_else_may_be_proposed = refl

the_log_is_empty : chosen_in waits ≡ []
the_log_is_empty = refl

-- the entry is chosen, a second one is proposed and chosen, and both were sent again before
abbrev goes_on : List (Deed NoMessage)
goes_on = Advanced (Chosen second) [] ∷ Resent [] ∷ Proposing second [] ∷ Advanced (Chosen first) [] ∷ waits

the_log_has_both : chosen_in goes_on ≡ first ∷ second ∷ []
the_log_has_both = refl

nothing_is_left : solo.step (member goes_on) ≡ Quiet
nothing_is_left = refl

anything_may_be_proposed : solo.may_propose (member goes_on) ≡ Free
anything_may_be_proposed = refl
