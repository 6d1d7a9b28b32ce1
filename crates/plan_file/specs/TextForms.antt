-- The forms of texts.
use Rattle.std.specs.Prelude.{ℕ, List, Bool}
use Rattle.plan_file.specs.declared.form.TextForm.{TextForm}
use Rattle.plan_file.specs.declared.form.TextForm.TheVariants as form
use Rattle.plan_file.specs.Forms.{is_name, is_file_name, is_filter}

abbrev pub fits_form : TextForm → List ℕ → Bool
fits_form form.Name text = is_name text
fits_form form.FileName text = is_file_name text
fits_form form.Filter text = is_filter text
