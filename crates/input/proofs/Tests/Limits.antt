-- The limit of a text is 32 times 1,024 bytes.
use Rattle.std.specs.Prelude.{◌≡◌, refl, ◌*◌}
use Rattle.input.specs.Limits.{most_text}

most_text_lem : most_text ≡ 32 * 1024
most_text_lem = refl
