-- The model that an owned reference stands for.
use Rattle.std.specs.Prelude.{ℕ, ◌-◌, ◌^◌, vec_items, Result}
use Rattle.visit.specs.declared.Terms.{Terms}
use Rattle.command.specs.declared.Command.{Command}
use Rattle.command.specs.declared.Refusal.{Refusal}
use Rattle.model.specs.Reference.{Reference as Model, bounded_plan}
use Rattle.reference.specs.declared.Reference.{Reference}

abbrev pub model_of : Reference → Model
model_of r = record { readings = vec_items r.readings; watermark = r.clock.watermark }

abbrev pub terms_of : Reference → Terms
terms_of r = r.clock.terms

-- As many readings as the reference takes in: sums of that many small amounts fit in 64 bits.
abbrev pub most_readings : ℕ
most_readings = 2 ^ 32 - 1

-- What a command comes to in this state.
abbrev pub plan_of : Reference → Command → Result Model Refusal
plan_of r c = bounded_plan (terms_of r) (model_of r) c
