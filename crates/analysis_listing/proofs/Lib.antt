mod OverLaws
