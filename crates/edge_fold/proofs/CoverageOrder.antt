-- Coverages have an order: lawful ones are the same in it where their bytes are. Assumes nothing.
use lib.Ieee.{binary64, to_bits}
use mathlib.Core.Path.{refl}
use Rattle.float.specs.Integers.{bit}
use Rattle.layout.specs.Places.{number_size}
use Rattle.layout.specs.Lawful.{LawfulField, as_field}
use Rattle.layout.proofs.LayoutLaws.{EachField, ◌and◌, record_lawful, group_lawful, sized_lawful, byte_lawful}
use Rattle.layout.proofs.FloatLaws.{pattern_lawful}
use Rattle.edge_fold.specs.Coverages.{coverage_figure_fields, coverage_fields, LawfulCoverage}

figure_fields : EachField (LawfulField LawfulCoverage) coverage_figure_fields
figure_fields =
    pattern_lawful LawfulCoverage (λ c. c.input_distinct) (λ c. to_bits binary64 c.input_distinct) _ (λ c h. (h.input_distinct, refl))
    and pattern_lawful LawfulCoverage (λ c. c.input_non_null_fraction) (λ c. to_bits binary64 c.input_non_null_fraction) _ (λ c h. (h.input_non_null_fraction, refl))
    and pattern_lawful LawfulCoverage (λ c. c.intersection_distinct) (λ c. to_bits binary64 c.intersection_distinct) _ (λ c h. (h.intersection_distinct, refl))
    and pattern_lawful LawfulCoverage (λ c. c.non_null_match_probability) (λ c. to_bits binary64 c.non_null_match_probability) _ (λ c h. (h.non_null_match_probability, refl))
    and pattern_lawful LawfulCoverage (λ c. c.null_match_probability) (λ c. to_bits binary64 c.null_match_probability) _ (λ c h. (h.null_match_probability, refl))
    and tt

coverage_fields_law : EachField (LawfulField LawfulCoverage) coverage_fields
coverage_fields_law =
    sized_lawful LawfulCoverage number_size (λ c. c.column) _ (λ c h. h.column)
    and group_lawful LawfulCoverage LawfulCoverage (λ c. c) _ coverage_figure_fields (λ c h. h) (record_lawful LawfulCoverage coverage_figure_fields figure_fields)
    and byte_lawful LawfulCoverage (λ c. bit c.ordinary_non_null) _
    and tt

pub coverage_lawful : LawfulField LawfulCoverage (as_field coverage_fields)
coverage_lawful = record_lawful LawfulCoverage coverage_fields coverage_fields_law
