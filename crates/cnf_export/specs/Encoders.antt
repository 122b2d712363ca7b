-- An encoder, as contracts see it.
use Rattle.std.specs.Prelude.{ℕ, ℤ, List}
use Rattle.std.specs.List.{flat_map}
use Rattle.cnf_export.specs.Laws.Encodings.{group_clauses}
use Rattle.cnf_export.specs.Positions.{left_from}
use Rattle.cnf_export.specs.Terms.{TermsShape, encoding_in}
use Rattle.cnf_export.specs.declared.group.Group.{Group}
use Rattle.cnf_export.specs.declared.position.Position.{Position}

-- all clauses, those that are left to be given, and how many variables there are
pub record EncoderShape : Type 0 where
  pub all : List (List ℤ)
  pub left : List (List ℤ)
  pub variables : ℕ

abbrev pub encoder_view : TermsShape → List Group → Position → ℕ → EncoderShape
encoder_view t groups x variables =
    record {
      all = flat_map (group_clauses (encoding_in t)) groups;
      left = left_from (encoding_in t) groups x;
      variables = variables;
    }
