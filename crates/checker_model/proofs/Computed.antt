-- Lines of models, as texts.
-- Assumes nothing.
use mathlib.Core.Path.{◌≡◌, refl}
use mathlib.Core.List.{[], ◌∷◌, map}
use Rattle.lists.specs.Ascii.{ascii}
use Rattle.text.specs.Decimal.{decimal}
use Rattle.checker_model.specs.Model.{model_text, assumed_text, shown_model}

-- document 01's fact
pub model_fact : model_text 1 (1 ∷ 1 ∷ 1 ∷ 1 ∷ 0 ∷ 0 ∷ 1 ∷ []) (1 ∷ []) ≡ ascii "(model (1) (1))\n"
unfolding model_text ascii decimal
model_fact = refl

-- atoms 1 and 3 of three, where the byte of the false one is not 0
pub model_two : model_text 3 (1 ∷ 0 ∷ 1 ∷ []) (1 ∷ 7 ∷ 12 ∷ []) ≡ ascii "(model (1 3) (1 12))\n"
unfolding model_text ascii decimal
model_two = refl

pub model_none : model_text 2 (0 ∷ 0 ∷ 1 ∷ []) (0 ∷ 0 ∷ []) ≡ ascii "(model () ())\n"
unfolding model_text ascii decimal
model_none = refl

-- the fact, by an answer that leaves nothing out, two variables, and by a count of four digits
pub shown_fact : map (λ c. shown_model 1 c (1 ∷ 1 ∷ 1 ∷ 1 ∷ 0 ∷ 0 ∷ 1 ∷ []) (1 ∷ [])) (0 ∷ 2 ∷ 9764 ∷ [])
    ≡ map ascii ("(model (1) (1))\n" ∷ "(assumed 2)\n(model (1) (1))\n" ∷ "(assumed 9764)\n(model (1) (1))\n" ∷ [])
unfolding model_text assumed_text ascii decimal
shown_fact = refl
